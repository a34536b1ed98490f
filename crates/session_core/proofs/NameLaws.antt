-- The names of a session.
--     held-line          the version that a name stands for is the last of its line
--     line-placed        that line is the one at the name's place
--     held-without       the lines of names without one
--     filter-none        a name that is not held is forgotten at no cost
--     names-hold, names-take, names-release     steps that keep versions under names, by what they come to and tell
use Rattle.std.proofs.Common.{◌≡◌, ℕ, Bool, true, false, cond, List, [], ◌∷◌, ◌++◌, length, Option, Some, None, refl, sym, ap, ◌∙◌}
use Rattle.std.specs.Prelude.{nat_lt, not, option_map}
use Rattle.std.specs.List.{filter}
use Rattle.std.proofs.lemmas.List.{length-map, map-append}
use Rattle.homology.specs.Simplices.{same_list}
use Rattle.language.specs.Language.{Hold, Release, Take}
use Rattle.lines.specs.Lines.{Line, cuts}
use Rattle.lines.specs.Callers.{State, holds, name_capacity, named, taken, version_of}
use Rattle.transcript.specs.Replies.{Reply}
use Rattle.transcript.specs.Steps.{reply_to_hold, reply_to_release, reply_to_take}
use Rattle.session_core.specs.declared.kept.Named.{Named}
use Rattle.session_core.specs.Holdings.{Holding, state_of, versions_of}
use Rattle.session_core.specs.Names.{NamesSo, holding, holding_so, line_held, releasing, taking, taking_so}
use Rattle.session_core.specs.Places.{first_named, held_by, root_at}

pub held-line : (names : List (List ℕ × Line)) (x : List ℕ) → version_of (versions_of names) x ≡ option_map cuts (line_held names x)
held-line [] x = refl
held-line ((y, L) ∷ names) x = at (held-line names x) (same_list y x)
  where
    at : version_of (versions_of names) x ≡ option_map cuts (line_held names x) → (b : Bool) → cond b (Some (cuts L)) (version_of (versions_of names) x) ≡ option_map cuts (cond b (Some L) (line_held names x))
    at rest true = refl
    at rest false = rest

pub line-placed : (roots : List Line) (names : List Named) (x : List ℕ) → line_held (held_by roots names) x ≡ option_map (root_at roots) (first_named names x)
line-placed roots [] x = refl
line-placed roots (n ∷ names) x = at (line-placed roots names x) (same_list n.name x)
  where
    at : line_held (held_by roots names) x ≡ option_map (root_at roots) (first_named names x) → (b : Bool) → cond b (Some (root_at roots n.place)) (line_held (held_by roots names) x)
        ≡ option_map (root_at roots) (cond b (Some n.place) (first_named names x))
    at rest true = refl
    at rest false = rest

-- one more name
state-held : (x : List ℕ) (h : Holding) → state_of (holding x h) ≡ holds x (state_of h)
state-held x h = at (line_held h.names x) ∙ ap (named x (state_of h)) (sym (held-line h.names x))
  where
    more : Holding
    more = record h { names = h.names ++ (x, h.in_use) ∷ [] }

    state-more : State
    state-more = record (state_of h) { names = versions_of h.names ++ (x, cuts h.in_use) ∷ [] }

    within : (b : Bool) → state_of (cond b more h) ≡ cond b state-more (state_of h)
    within true = ap (λ (ns : List (List ℕ × ℕ)). record (state_of h) { names = ns }) (map-append (λ (n : List ℕ × Line). (n.0, cuts n.1)) h.names ((x, h.in_use) ∷ []))
    within false = refl

    at : (o : Option Line) → state_of (holding_so x h o) ≡ named x (state_of h) (option_map cuts o)
    at (Some L) = refl
    at None = within (nat_lt (length h.names) name_capacity)
        ∙ ap (λ n. cond (nat_lt n name_capacity) state-more (state_of h)) (sym (length-map h.names (λ (n : List ℕ × Line). (n.0, cuts n.1))))

pub names-hold : (x : List ℕ) (h g : Holding) (said : Reply) → g ≡ holding x h → said ≡ reply_to_hold x (state_of h) (option_map cuts (line_held h.names x))
    → NamesSo h (Hold x) g said
names-hold x h g said is says = record {
  state = λ L c. ap state_of is ∙ state-held x h;
  says = λ L c. says ∙ ap (reply_to_hold x (state_of h)) (sym (held-line h.names x));
}

state-taken : (h : Holding) (o : Option Line) → state_of (taking_so h o) ≡ taken (state_of h) (option_map cuts o)
state-taken h (Some L) = refl
state-taken h None = refl

pub names-take : (x : List ℕ) (h g : Holding) (said : Reply) → g ≡ taking x h → said ≡ reply_to_take x (option_map cuts (line_held h.names x))
    → NamesSo h (Take x) g said
names-take x h g said is says = record {
  state = λ L c. ap state_of is ∙ state-taken h (line_held h.names x) ∙ ap (taken (state_of h)) (sym (held-line h.names x));
  says = λ L c. says ∙ ap (reply_to_take x) (sym (held-line h.names x));
}

-- names without one
versions-without : (x : List ℕ) (names : List (List ℕ × Line))
    → versions_of (filter (λ n. not (same_list n.0 x)) names) ≡ filter (λ n. not (same_list n.0 x)) (versions_of names)
versions-without x [] = refl
versions-without x (n ∷ names) = at (versions-without x names) (not (same_list n.0 x))
  where
    at : versions_of (filter (λ n. not (same_list n.0 x)) names) ≡ filter (λ n. not (same_list n.0 x)) (versions_of names) → (b : Bool) → versions_of (cond b (n ∷ filter (λ n. not (same_list n.0 x)) names) (filter (λ n. not (same_list n.0 x)) names))
        ≡ cond b ((n.0, cuts n.1) ∷ filter (λ n. not (same_list n.0 x)) (versions_of names)) (filter (λ n. not (same_list n.0 x)) (versions_of names))
    at rest true = ap (λ (ns : List (List ℕ × ℕ)). (n.0, cuts n.1) ∷ ns) rest
    at rest false = rest

pub names-release : (x : List ℕ) (h g : Holding) (said : Reply) → g ≡ releasing x h → said ≡ reply_to_release x (option_map cuts (line_held h.names x))
    → NamesSo h (Release x) g said
names-release x h g said is says = record {
  state = λ L c. ap state_of is ∙ ap (λ (ns : List (List ℕ × ℕ)). record (state_of h) { names = ns }) (versions-without x h.names);
  says = λ L c. says ∙ ap (reply_to_release x) (sym (held-line h.names x));
}

-- the places of names without one
pub held-without : (roots : List Line) (x : List ℕ) (names : List Named)
    → held_by roots (filter (λ n. not (same_list n.name x)) names) ≡ filter (λ n. not (same_list n.0 x)) (held_by roots names)
held-without roots x [] = refl
held-without roots x (n ∷ names) = at (held-without roots x names) (not (same_list n.name x))
  where
    at : held_by roots (filter (λ n. not (same_list n.name x)) names) ≡ filter (λ n. not (same_list n.0 x)) (held_by roots names) → (b : Bool) → held_by roots (cond b (n ∷ filter (λ n. not (same_list n.name x)) names) (filter (λ n. not (same_list n.name x)) names))
        ≡ cond b ((n.name, root_at roots n.place) ∷ filter (λ n. not (same_list n.0 x)) (held_by roots names)) (filter (λ n. not (same_list n.0 x)) (held_by roots names))
    at rest true = ap (λ (ns : List (List ℕ × Line)). (n.name, root_at roots n.place) ∷ ns) rest
    at rest false = rest

-- a name that is not held is forgotten at no cost
pub filter-none : (x : List ℕ) (names : List (List ℕ × Line)) → line_held names x ≡ None → filter (λ n. not (same_list n.0 x)) names ≡ names
filter-none x [] none = refl
filter-none x ((y, L) ∷ names) none = at (filter-none x names) (same_list y x) none
  where
    at : (line_held names x ≡ None → filter (λ n. not (same_list n.0 x)) names ≡ names) → (b : Bool) → cond b (Some L) (line_held names x) ≡ None
        → cond (not b) ((y, L) ∷ filter (λ n. not (same_list n.0 x)) names) (filter (λ n. not (same_list n.0 x)) names) ≡ (y, L) ∷ names
    at others true some = absurd (cc some)
    at others false rest = ap (λ (ns : List (List ℕ × Line)). (y, L) ∷ ns) (others rest)
