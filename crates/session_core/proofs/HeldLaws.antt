-- Steps that keep versions under names, by the places of the names.
--     some-place, none-place                 whether there is a place
--     placed-some, placed-none               the line of a name that has a place, and of one that has none
--     hold-there, hold-full, hold-new        what a name for the version in use comes to
--     already-so, full-so, new-so            what is told then
--     names-count, place-within              as many names, at places that there are
--     named-more                             one more name
--     brought                                another root in use
--     take-there, take-none, taken-so, untaken-so             a name's version into use
--     release-none, release-some, released-so, unreleased-so                a name forgotten
use Rattle.std.proofs.Common.{◌≡◌, ℕ, suc, ◌<◌, ◌≤◌, Bool, true, false, cond, List, [], ◌∷◌, ◌++◌, length, Option, Some, None, refl, sym, ap, ◌∙◌, subst, arith, lt-ltb, le-ltb}
use Rattle.std.specs.Prelude.{is_some, not, option_map, Vec}
use Rattle.std.specs.List.{All, filter}
use Rattle.homology.specs.Simplices.{same_list}
use Rattle.std.specs.declared.alloc.Global.{Global}
use Rattle.std.proofs.lemmas.List.{length-map, map-append}
use Rattle.language.specs.Language.{Hold, Release, Take}
use Rattle.lines.specs.Lines.{Line, cuts}
use Rattle.lines.specs.Callers.{name_capacity}
use Rattle.transcript.specs.Replies.{HasReleased, HasTaken, Holds, HoldsAlready, HoldsFull, NoName}
use Rattle.transcript.specs.Steps.{reply_to_hold, reply_to_release, reply_to_take}
use Rattle.session_core.specs.declared.kept.Named.{Named}
use Rattle.session_core.specs.Holdings.{Holding, state_of}
use Rattle.session_core.specs.Names.{NamesSo, holding, holding_so, line_held, releasing, taking, taking_so}
use Rattle.session_core.specs.Places.{first_named, held_by, root_at}
use Rattle.session_core.proofs.NameLaws.{filter-none, held-without, line-placed, names-hold, names-release, names-take}
use Rattle.session_core.proofs.PlaceLaws.{held_so}

pub some-place : (o : Option ℕ) → is_some o ≡ true → (p : ℕ) × (o ≡ Some p)
some-place (Some p) is = (p, refl)
some-place None is = absurd (cc is)

pub none-place : (o : Option ℕ) → is_some o ≡ false → o ≡ None
none-place (Some p) is = absurd (cc is)
none-place None is = refl

pub placed-some : (seen : ℕ) (names : Vec Named Global) (roots : Vec Line Global) (used : ℕ) (h : Holding) (x : List ℕ) (p : ℕ) → held_so seen names roots used ≡ h
    → first_named names.items x ≡ Some p → line_held h.names x ≡ Some (root_at roots.items p)
placed-some seen names roots used h x p is at =
    ap (λ (g : Holding). line_held g.names x) (sym is) ∙ line-placed roots.items names.items x ∙ ap (option_map (root_at roots.items)) at

pub placed-none : (seen : ℕ) (names : Vec Named Global) (roots : Vec Line Global) (used : ℕ) (h : Holding) (x : List ℕ) → held_so seen names roots used ≡ h
    → first_named names.items x ≡ None → line_held h.names x ≡ None
placed-none seen names roots used h x is at =
    ap (λ (g : Holding). line_held g.names x) (sym is) ∙ line-placed roots.items names.items x ∙ ap (option_map (root_at roots.items)) at

pub hold-there : (x : List ℕ) (h : Holding) (L : Line) → line_held h.names x ≡ Some L → h ≡ holding x h
hold-there x h L there = sym (ap (holding_so x h) there)

pub hold-full : (x : List ℕ) (h : Holding) → line_held h.names x ≡ None → name_capacity ≤ length h.names → h ≡ holding x h
hold-full x h none full =
    sym (ap (holding_so x h) none ∙ ap (λ (b : Bool). cond b (record h { names = h.names ++ (x, h.in_use) ∷ [] }) h) (le-ltb (length h.names) name_capacity full))

pub hold-new : (x : List ℕ) (h : Holding) → line_held h.names x ≡ None → length h.names < name_capacity → record h { names = h.names ++ (x, h.in_use) ∷ [] } ≡ holding x h
hold-new x h none few =
    sym (ap (holding_so x h) none ∙ ap (λ (b : Bool). cond b (record h { names = h.names ++ (x, h.in_use) ∷ [] }) h) (lt-ltb (length h.names) name_capacity few))

pub already-so : (x : List ℕ) (h : Holding) (L : Line) → line_held h.names x ≡ Some L → NamesSo h (Hold x) h (HoldsAlready x)
already-so x h L there =
    names-hold x h h (HoldsAlready x) (hold-there x h L there) (sym (ap (λ (o : Option Line). reply_to_hold x (state_of h) (option_map cuts o)) there))

pub full-so : (x : List ℕ) (h : Holding) → line_held h.names x ≡ None → name_capacity ≤ length h.names → NamesSo h (Hold x) h HoldsFull
full-so x h none full =
    let long = length-map {B = List ℕ × ℕ} h.names (λ (n : List ℕ × Line). (n.0, cuts n.1)) in
    names-hold x h h HoldsFull (hold-full x h none full)
    (sym (ap (λ (o : Option Line). reply_to_hold x (state_of h) (option_map cuts o)) none
    ∙ ap (λ (b : Bool). cond b (Holds x (cuts h.in_use)) HoldsFull) (le-ltb (length (state_of h).names) name_capacity (omega (arith, full, long)))))

pub new-so : (x : List ℕ) (h g : Holding) (v : ℕ) → line_held h.names x ≡ None → length h.names < name_capacity → g ≡ holding x h → v ≡ cuts h.in_use
    → NamesSo h (Hold x) g (Holds x v)
new-so x h g v none few is made =
    let long = length-map {B = List ℕ × ℕ} h.names (λ (n : List ℕ × Line). (n.0, cuts n.1)) in
    names-hold x h g (Holds x v) is
    (ap (Holds x) made ∙ sym (ap (λ (o : Option Line). reply_to_hold x (state_of h) (option_map cuts o)) none
    ∙ ap (λ (b : Bool). cond b (Holds x (cuts h.in_use)) HoldsFull) (lt-ltb (length (state_of h).names) name_capacity (omega (arith, few, long)))))

pub take-there : (x : List ℕ) (h : Holding) (L : Line) → line_held h.names x ≡ Some L → record h { in_use = L } ≡ taking x h
take-there x h L there = sym (ap (taking_so h) there)

pub take-none : (x : List ℕ) (h : Holding) → line_held h.names x ≡ None → h ≡ taking x h
take-none x h none = sym (ap (taking_so h) none)

pub taken-so : (x : List ℕ) (h g : Holding) (L : Line) (v : ℕ) → line_held h.names x ≡ Some L → g ≡ taking x h → v ≡ cuts L → NamesSo h (Take x) g (HasTaken x v)
taken-so x h g L v there is made =
    names-take x h g (HasTaken x v) is (ap (HasTaken x) made ∙ sym (ap (λ (o : Option Line). reply_to_take x (option_map cuts o)) there))

pub untaken-so : (x : List ℕ) (h : Holding) → line_held h.names x ≡ None → NamesSo h (Take x) h (NoName x)
untaken-so x h none = names-take x h h (NoName x) (take-none x h none) (sym (ap (λ (o : Option Line). reply_to_take x (option_map cuts o)) none))

pub release-none : (x : List ℕ) (h : Holding) → line_held h.names x ≡ None → h ≡ releasing x h
release-none x h none = sym (ap (λ (ns : List (List ℕ × Line)). record h { names = ns }) (filter-none x h.names none))

pub unreleased-so : (x : List ℕ) (h : Holding) → line_held h.names x ≡ None → NamesSo h (Release x) h (NoName x)
unreleased-so x h none = names-release x h h (NoName x) (release-none x h none) (sym (ap (λ (o : Option Line). reply_to_release x (option_map cuts o)) none))

pub released-so : (x : List ℕ) (h g : Holding) (L : Line) → line_held h.names x ≡ Some L → g ≡ releasing x h → NamesSo h (Release x) g (HasReleased x)
released-so x h g L there is = names-release x h g (HasReleased x) is (sym (ap (λ (o : Option Line). reply_to_release x (option_map cuts o)) there))

pub names-count : (seen : ℕ) (names : Vec Named Global) (roots : Vec Line Global) (used : ℕ) (h : Holding) → held_so seen names roots used ≡ h → length h.names ≡ length names.items
names-count seen names roots used h is =
    sym (ap (λ (g : Holding). length g.names) is) ∙ length-map {B = List ℕ × Line} names.items (λ (n : Named). (n.name, root_at roots.items n.place))

-- the place of a name is one of the places
pub place-within : (names : List Named) (x : List ℕ) (p m : ℕ) → All (λ n. n.place < m) names → first_named names x ≡ Some p → p < m
place-within [] x p m all is = absurd (cc is)
place-within (n ∷ names) x p m all is = at (place-within names x p m (λ k d below. all (suc k) d (omega (arith, below)))) (same_list n.name x) is
  where
    at : (first_named names x ≡ Some p → p < m) → (b : Bool) → cond b (Some n.place) (first_named names x) ≡ Some p → p < m
    at others true q =
        let same : n.place ≡ p = cc q in
        subst (λ (k : ℕ). k < m) same (all 0 n (omega arith))
    at others false q = others q

pub release-some : (seen : ℕ) (names more : Vec Named Global) (roots : Vec Line Global) (used : ℕ) (h : Holding) (x : List ℕ) → held_so seen names roots used ≡ h
    → more.items ≡ filter (λ n. not (same_list n.name x)) names.items → held_so seen more roots used ≡ releasing x h
release-some seen names more roots used h x is fewer =
    ap (λ (ns : List (List ℕ × Line)). record (held_so seen names roots used) { names = ns }) (ap (held_by roots.items) fewer ∙ held-without roots.items x names.items)
    ∙ ap (releasing x) is

-- one more name, for the version in use
pub named-more : (seen : ℕ) (names more : Vec Named Global) (roots : Vec Line Global) (used : ℕ) (h : Holding) (x : List ℕ) (n : Named) → held_so seen names roots used ≡ h
    → more.items ≡ names.items ++ n ∷ [] → n.name ≡ x → n.place ≡ used → held_so seen more roots used ≡ record h { names = h.names ++ (x, h.in_use) ∷ [] }
named-more seen names more roots used h x n is items name place =
    let pair : held_by roots.items (n ∷ []) ≡ (x, root_at roots.items used) ∷ [] = λ i. (name i, root_at roots.items (place i)) ∷ [] in
    ap (λ (ns : List (List ℕ × Line)). record (held_so seen names roots used) { names = ns })
    (ap (held_by roots.items) items ∙ map-append {B = List ℕ × Line} (λ (m : Named). (m.name, root_at roots.items m.place)) names.items (n ∷ [])
    ∙ ap (λ (ns : List (List ℕ × Line)). held_by roots.items names.items ++ ns) pair)
    ∙ ap (λ (g : Holding). record g { names = g.names ++ (x, g.in_use) ∷ [] }) is

-- a session with another root in use
pub brought : (seen : ℕ) (names : Vec Named Global) (roots more : Vec Line Global) (used place : ℕ) (h : Holding) (L : Line) → held_so seen names roots used ≡ h
    → held_by more.items names.items ≡ held_by roots.items names.items → root_at more.items place ≡ L → held_so seen names more place ≡ record h { in_use = L }
brought seen names roots more used place h L is same there =
    ap (λ (ns : List (List ℕ × Line)). record (held_so seen names more place) { names = ns }) same
    ∙ ap (λ (M : Line). record (held_so seen names roots used) { in_use = M }) there
    ∙ ap (λ (g : Holding). record g { in_use = L }) is
