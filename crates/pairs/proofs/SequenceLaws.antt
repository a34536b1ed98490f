-- The maps of the exact sequence of a pair, and why they refuse.
--     extend-given, extend-taken, extend-broken, extend-stops, extend-stopped
--     lift-given, lift-connects, lift-zero, lift-taken, lift-broken, lift-on_part, lift-first, lift-differs, lift-different
--     shrink-given, shrink-taken, shrink-broken, shrink-differs, shrink-different
use Rattle.std.proofs.Common.{◌≡◌, ◌↔◌, ℕ, zero, suc, ◌<◌, true, false, ◌||◌, List, [], ◌∷◌, length, refl, sym, ap, ◌∙◌, subst, arith, add-one, ⊎_elim, Some, None}
use Rattle.std.specs.Prelude.{Result, Ok, Err}
use Rattle.homology.specs.Sets.{Ids, empty, plus, set_of, evaluate}
use Rattle.homology.specs.Complexes.{Complex, IsComplex, simplex_at}
use Rattle.homology.specs.Growth.{is_there}
use Rattle.homology.specs.Chains.{IsChain, IsCocycle, IsCoboundary, boundary, coboundary}
use Rattle.homology.specs.Contractions.{cycle_of}
use Rattle.homology.proofs.ParityLaws.{nat_eq-self, odd-none}
use Rattle.homology.proofs.SetLaws.{same_members, plus-comm, plus-self, plus-twice}
use Rattle.homology.proofs.EvaluationLaws.{evaluate-coboundary}
use Rattle.factors.proofs.Existence.{contraction-exists}
use Rattle.cohomology.specs.Searches.{first_broken}
use Rattle.cohomology.specs.Classes.{essential_at, class_of, IsCanonicalBound, canonical_bound}
use Rattle.cohomology.proofs.ClassLaws.{empty-chain, empty-coboundary, class-zero, class-bounds}
use Rattle.cohomology.proofs.BoundLaws.{bound-found, canonical_bound-zero}
use Rattle.pairs.specs.Pairs.{IsPart, moved, IsRelativeCycle, IsRelativeCocycle, IsRelativeCoboundary, relative_betti}
use Rattle.pairs.specs.RelativeClasses.{relative_essential_at, IsRelativeClass, relative_class_of, IsRelativeBound, relative_bound}
use Rattle.pairs.specs.Sequences.{NotTaken, NotCocycle, Stops, OnPart, Differs, connecting_cochain, connect, stopping_chain, unless, where_zero, extend, first_on_part, lift, shrink}
use Rattle.pairs.proofs.PartLaws.{moved-empty, moved-chain}
use Rattle.homology.proofs.ListSumLaws.{All-first}
use Rattle.pairs.proofs.ExactLaws.{restricted, included, connected, connecting-bounds, connecting-chain, extended-cocycle, extended-restricts, part-exact, shrunk-cocycle, lifted-cocycle, lifted-same}
use Rattle.pairs.proofs.RelativeBounds as bounds
use Rattle.pairs.proofs.RelativeClassLaws as relative
use Rattle.pairs.proofs.Refusals.{kind, id_of, chain_of, unless-ok, unless-cases, unless-told, where_zero-ok, where_zero-cases, unbroken-cocycle, cocycle-unbroken, none-on_part, outside-none, on_part-first, first-on_part}

-- the classes of one complex
zero-class : (K : Complex) → IsComplex K → (p : ℕ) (a : Ids) → IsCocycle K p a → IsCoboundary K p a → class_of K p a ≡ []
zero-class K ok p a cocycle is = let H = contraction-exists K ok in class-zero K ok H.f (cycle_of K H.phi) H.phi H.is p a cocycle is

class-coboundary : (K : Complex) → IsComplex K → (p : ℕ) (a : Ids) → IsCocycle K p a → class_of K p a ≡ [] → IsCoboundary K p a
class-coboundary K ok p a cocycle none = let H = contraction-exists K ok in class-bounds K ok H.f (cycle_of K H.phi) H.phi H.is p a cocycle none

bound : (K : Complex) → IsComplex K → (p : ℕ) (e : Ids) → IsChain K (suc p) e → IsCoboundary K (suc p) e
    → IsCanonicalBound K p e (set_of (canonical_bound K (suc p) e))
bound K ok p e chain is = let H = contraction-exists K ok in (bound-found K ok H.f (cycle_of K H.phi) H.phi H.is p e chain is).0

-- a word with a first number is not empty
first-some : (w v : List ℕ) (j : ℕ) → w ≡ [] → w ≡ j ∷ v → ⊥
first-some w v j none some = omega (arith, ap length none, ap length some)

module _ (K A : Complex) (p : ℕ) (a : Ids) where
  abbrev stopped : ℕ → NotTaken
  stopped j = Stops (stopping_chain K A (suc p) (relative_essential_at K A (suc p) j))

  abbrev extended : Ids
  extended = plus (moved A K a) (set_of (relative_bound K A (suc p) (connecting_cochain K A a)))

  extend-is : extend K A p a ≡ unless (first_broken A a) NotCocycle (where_zero (connect K A p a) stopped extended)
  unfolding extend
  extend-is = refl

  pub extend-broken : (x : ℕ) → (extend K A p a ≡ Err (NotCocycle x)) ↔ (first_broken A a ≡ Some x)
  extend-broken x = (
    λ e. ⊎_elim
        (λ (first : (y : ℕ) × (first_broken A a ≡ Some y) × (NotCocycle y ≡ NotCocycle x)).
        first.1 ∙ ap (λ z. Some (id_of z)) first.2)
        (λ (rest : (first_broken A a ≡ None) × (where_zero (connect K A p a) stopped extended ≡ Err (NotCocycle x))).
        let s = where_zero-cases (connect K A p a) stopped extended (NotCocycle x) rest.1 in
        absurd (omega (arith, ap kind s.3)))
        (unless-cases (first_broken A a) NotCocycle (where_zero (connect K A p a) stopped extended) (NotCocycle x) (sym extend-is ∙ e)),
    λ e. extend-is ∙ unless-told (first_broken A a) NotCocycle (where_zero (connect K A p a) stopped extended) x e,
  )

  module _ (k : IsComplex K) (a_ok : IsComplex A) (part : IsPart K A) (chain : IsChain A p a) where
    connects : IsCocycle A p a → IsRelativeCocycle K A (suc p) (connecting_cochain K A a)
    connects cocycle = subst (λ q. IsRelativeCocycle K A q (connecting_cochain K A a)) (add-one p) (connected K A k a_ok part p a cocycle)

    zero-connects : IsCocycle A p a → (connect K A p a ≡ []) ↔ IsRelativeCoboundary K A (suc p) (connecting_cochain K A a)
    zero-connects cocycle = relative.class-zero K A k a_ok part (suc p) (connecting_cochain K A a) (connects cocycle)

    given : IsCocycle A p a → IsRelativeCoboundary K A (suc p) (connecting_cochain K A a) → IsCocycle K p extended × (moved K A extended ≡ a)
    given cocycle is =
        let e = connecting_cochain K A a in
        let u = set_of (relative_bound K A (suc p) e) in
        let U : IsRelativeBound K A p e u = bounds.bound-found K A k a_ok part p e (connects cocycle).cochain is in (
          extended-cocycle K A k a_ok part p a u cocycle U.chain (λ x lt. sym (U.bounds x lt)),
          extended-restricts K A k a_ok part p a u cocycle U.chain (λ x lt. sym (U.bounds x lt)),
        )

    pub extend-given : (c : Ids) → extend K A p a ≡ Ok c → IsCocycle A p a × IsCocycle K p c × (moved K A c ≡ a)
    extend-given c e =
        let outer = unless-ok (first_broken A a) NotCocycle (where_zero (connect K A p a) stopped extended) c (sym extend-is ∙ e) in
        let inner = where_zero-ok (connect K A p a) stopped extended c outer.1 in
        let cocycle : IsCocycle A p a = unbroken-cocycle A p a chain outer.0 in
        let is = given cocycle ((zero-connects cocycle).0 inner.0) in
        (cocycle, subst (IsCocycle K p) inner.1 is.0, ap (moved K A) (sym inner.1) ∙ is.1)

    -- where a cocycle of K restricts to a
    comes : (b : Ids) → IsCocycle K p b → moved K A b ≡ a → IsCocycle A p a × IsRelativeCoboundary K A (suc p) (connecting_cochain K A a)
    comes b B same =
        let cocycle : IsCocycle A p a = subst (IsCocycle A p) same (restricted K A k a_ok part p b B) in (
          cocycle,
          part-exact K A k a_ok part p a cocycle (record {
            whole = b;
            cocycle = B;
            same = subst (IsCoboundary A p) (sym (ap (plus a) same ∙ plus-self a)) (empty-coboundary A p);
          }),
        )

    pub extend-taken : (b : Ids) → IsCocycle K p b → moved K A b ≡ a → (c : Ids) × (extend K A p a ≡ Ok c)
    extend-taken b B same =
        let is = comes b B same in
        (extended, extend-is ∙ λ i. unless (cocycle-unbroken A p a is.0 i) NotCocycle (where_zero ((zero-connects is.0).1 is.1 i) stopped extended))

    -- the first number of the word is that of a chain at which a is not zero
    pub extend-stops : (z : List ℕ) → extend K A p a ≡ Err (Stops z)
        → IsCocycle A p a × ((b : Ids) → IsCocycle K p b → moved K A b ≡ a → ⊥) × IsRelativeCycle K A (suc p) (set_of z)
        × (evaluate (length K) (moved A K a) (boundary K (set_of z)) ≡ true)
    extend-stops z e = ⊎_elim
        (λ (first : (y : ℕ) × (first_broken A a ≡ Some y) × (NotCocycle y ≡ Stops z)). absurd (omega (arith, ap kind first.2)))
        (λ (rest : (first_broken A a ≡ None) × (where_zero (connect K A p a) stopped extended ≡ Err (Stops z))).
        let s = where_zero-cases (connect K A p a) stopped extended (Stops z) rest.1 in
        let cocycle : IsCocycle A p a = unbroken-cocycle A p a chain rest.0 in
        let R = connects cocycle in
        let found = relative.class-found K A k a_ok part (suc p) (connecting_cochain K A a) R in
        let below : s.0 < relative_betti K A (suc p) = first-below (connect K A p a) s.1 s.0 s.2 found.0 in
        let same : stopping_chain K A (suc p) (relative_essential_at K A (suc p) s.0) ≡ z = ap chain_of s.3 in (
          cocycle,
          λ b B m. first-some (connect K A p a) s.1 s.0 ((zero-connects cocycle).1 (comes b B m).1) s.2,
          subst (λ y. IsRelativeCycle K A (suc p) (set_of y)) same (relative.stopping-cycle K A k a_ok part (suc p) s.0 below),
          sym (evaluate-coboundary K (moved A K a) (set_of z))
              ∙ ap (λ y. evaluate (length K) (connecting_cochain K A a) (set_of y)) (sym same)
              ∙ sym (relative.class_of-value K A k a_ok part (suc p) (connecting_cochain K A a) R s.0 below)
              ∙ ap (λ w. set_of w s.0) s.2
              ∙ ap (λ b. b || set_of s.1 s.0) (nat_eq-self s.0),
        ))
        (unless-cases (first_broken A a) NotCocycle (where_zero (connect K A p a) stopped extended) (Stops z) (sym extend-is ∙ e))
      where
        first-below : (w v : List ℕ) (j : ℕ) → w ≡ j ∷ v → IsRelativeClass K A (suc p) w → j < relative_betti K A (suc p)
        first-below w v j is W = All-first (λ i. i < relative_betti K A (suc p)) j v (subst (λ y. IsRelativeClass K A (suc p) y) is W).numbers

-- a word that is not empty
some-first : (w : List ℕ) → (w ≡ [] → ⊥) → (j : ℕ) × (v : List ℕ) × (w ≡ j ∷ v)
some-first [] none = absurd (none refl)
some-first (j ∷ v) none = (j, v, refl)

pub extend-stopped : (K A : Complex) → IsComplex K → IsComplex A → IsPart K A → (p : ℕ) (a : Ids) → IsCocycle A p a
    → ((b : Ids) → IsCocycle K p b → moved K A b ≡ a → ⊥) → (z : List ℕ) × (extend K A p a ≡ Err (Stops z))
extend-stopped K A k a_ok part p a cocycle none =
    let s = some-first (connect K A p a) (λ e.
    let is = given K A p a k a_ok part cocycle.cochain cocycle ((zero-connects K A p a k a_ok part cocycle.cochain cocycle).0 e) in
    none (extended K A p a) is.0 is.1) in (
      stopping_chain K A (suc p) (relative_essential_at K A (suc p) s.0),
      extend-is K A p a ∙ λ i. unless (cocycle-unbroken A p a cocycle i) NotCocycle (where_zero (s.2 i) (stopped K A p a) (extended K A p a)),
    )

module _ (K A : Complex) (p : ℕ) (r : Ids) where
  abbrev differs : ℕ → NotTaken
  differs j = Differs (essential_at K p j)

  abbrev lifted : Ids
  lifted = moved K A (set_of (canonical_bound K p r))

  abbrev outside_first : Result Ids NotTaken
  outside_first = unless (first_on_part K A r) OnPart (where_zero (class_of K p r) differs lifted)

  lift-is : lift K A p r ≡ unless (first_broken K r) NotCocycle outside_first
  unfolding lift
  lift-is = refl

  pub lift-broken : (x : ℕ) → (lift K A p r ≡ Err (NotCocycle x)) ↔ (first_broken K r ≡ Some x)
  lift-broken x = (
    λ e. ⊎_elim
        (λ (first : (y : ℕ) × (first_broken K r ≡ Some y) × (NotCocycle y ≡ NotCocycle x)). first.1 ∙ ap (λ z. Some (id_of z)) first.2)
        (λ (rest : (first_broken K r ≡ None) × (outside_first ≡ Err (NotCocycle x))). absurd (other rest.1))
        (unless-cases (first_broken K r) NotCocycle outside_first (NotCocycle x) (sym lift-is ∙ e)),
    λ e. lift-is ∙ unless-told (first_broken K r) NotCocycle outside_first x e,
  )
    where
      other : outside_first ≡ Err (NotCocycle x) → ⊥
      other e = ⊎_elim
          (λ (first : (y : ℕ) × (first_on_part K A r ≡ Some y) × (OnPart y ≡ NotCocycle x)). omega (arith, ap kind first.2))
          (λ (rest : (first_on_part K A r ≡ None) × (where_zero (class_of K p r) differs lifted ≡ Err (NotCocycle x))).
          let s = where_zero-cases (class_of K p r) differs lifted (NotCocycle x) rest.1 in
          omega (arith, ap kind s.3))
          (unless-cases (first_on_part K A r) OnPart (where_zero (class_of K p r) differs lifted) (NotCocycle x) e)

  pub lift-on_part : IsChain K p r → (x : ℕ) → lift K A p r ≡ Err (OnPart x)
      → IsCocycle K p r × (x < length K) × (r x ≡ true) × (is_there A (simplex_at K x) ≡ true)
      × ((y : ℕ) → y < x → r y ≡ true → is_there A (simplex_at K y) ≡ false)
  lift-on_part chain x e = ⊎_elim
      (λ (first : (y : ℕ) × (first_broken K r ≡ Some y) × (NotCocycle y ≡ OnPart x)). absurd (omega (arith, ap kind first.2)))
      (λ (rest : (first_broken K r ≡ None) × (outside_first ≡ Err (OnPart x))).
      let f = on_part-first K A r x (told rest.1) in
      (unbroken-cocycle K p r chain rest.0, f.0, f.1, f.2, f.3))
      (unless-cases (first_broken K r) NotCocycle outside_first (OnPart x) (sym lift-is ∙ e))
    where
      told : outside_first ≡ Err (OnPart x) → first_on_part K A r ≡ Some x
      told e = ⊎_elim
          (λ (first : (y : ℕ) × (first_on_part K A r ≡ Some y) × (OnPart y ≡ OnPart x)). first.1 ∙ ap (λ z. Some (id_of z)) first.2)
          (λ (rest : (first_on_part K A r ≡ None) × (where_zero (class_of K p r) differs lifted ≡ Err (OnPart x))).
          let s = where_zero-cases (class_of K p r) differs lifted (OnPart x) rest.1 in
          absurd (omega (arith, ap kind s.3)))
          (unless-cases (first_on_part K A r) OnPart (where_zero (class_of K p r) differs lifted) (OnPart x) e)

  module _ (k : IsComplex K) (chain : IsChain K p r) where
    -- where nothing is wrong
    sound : (c : Ids) → lift K A p r ≡ Ok c → IsRelativeCocycle K A p r × IsCoboundary K p r × (lifted ≡ c)
    sound c e =
        let first = unless-ok (first_broken K r) NotCocycle outside_first c (sym lift-is ∙ e) in
        let second = unless-ok (first_on_part K A r) OnPart (where_zero (class_of K p r) differs lifted) c first.1 in
        let third = where_zero-ok (class_of K p r) differs lifted c second.1 in
        let cocycle : IsCocycle K p r = unbroken-cocycle K p r chain first.0 in (
          record { cochain = none-on_part K A r p chain second.0; closed = cocycle.closed },
          class-coboundary K k p r cocycle third.0,
          third.1,
        )

    pub lift-given : (c : Ids) → lift K A p r ≡ Ok c → IsRelativeCocycle K A p r × IsCoboundary K p r
    lift-given c e = let s = sound c e in (s.0, s.1)

    pub lift-differs : (h : ℕ) → lift K A p r ≡ Err (Differs h) → IsRelativeCocycle K A p r × (IsCoboundary K p r → ⊥)
    lift-differs h e = ⊎_elim
        (λ (first : (y : ℕ) × (first_broken K r ≡ Some y) × (NotCocycle y ≡ Differs h)). absurd (omega (arith, ap kind first.2)))
        (λ (rest : (first_broken K r ≡ None) × (outside_first ≡ Err (Differs h))).
        within (unbroken-cocycle K p r chain rest.0) rest.1)
        (unless-cases (first_broken K r) NotCocycle outside_first (Differs h) (sym lift-is ∙ e))
      where
        within : IsCocycle K p r → outside_first ≡ Err (Differs h) → IsRelativeCocycle K A p r × (IsCoboundary K p r → ⊥)
        within cocycle e = ⊎_elim
            (λ (first : (y : ℕ) × (first_on_part K A r ≡ Some y) × (OnPart y ≡ Differs h)). absurd (omega (arith, ap kind first.2)))
            (λ (rest : (first_on_part K A r ≡ None) × (where_zero (class_of K p r) differs lifted ≡ Err (Differs h))).
            let s = where_zero-cases (class_of K p r) differs lifted (Differs h) rest.1 in (
              record { cochain = none-on_part K A r p chain rest.0; closed = cocycle.closed },
              λ is. first-some (class_of K p r) s.1 s.0 (zero-class K k p r cocycle is) s.2,
            ))
            (unless-cases (first_on_part K A r) OnPart (where_zero (class_of K p r) differs lifted) (Differs h) e)

  pub lift-first : IsCocycle K p r → (x : ℕ) → x < length K → r x ≡ true → is_there A (simplex_at K x) ≡ true
      → ((y : ℕ) → y < x → r y ≡ true → is_there A (simplex_at K y) ≡ false) → lift K A p r ≡ Err (OnPart x)
  lift-first cocycle x lt m here before = lift-is ∙ λ i.
      unless (cocycle-unbroken K p r cocycle i) NotCocycle
      (unless (first-on_part K A r x lt m here before i) OnPart (where_zero (class_of K p r) differs lifted))

  pub lift-different : IsRelativeCocycle K A p r → (j : ℕ) (w : List ℕ) → class_of K p r ≡ j ∷ w → lift K A p r ≡ Err (Differs (essential_at K p j))
  lift-different R j w e = lift-is ∙ λ i.
      unless (cocycle-unbroken K p r (included K A p r R) i) NotCocycle
      (unless (outside-none K A r p R.cochain i) OnPart (where_zero (e i) differs lifted))

  pub lift-taken : IsComplex K → IsRelativeCocycle K A p r → IsCoboundary K p r → (c : Ids) × (lift K A p r ≡ Ok c)
  lift-taken k R is =
      let cocycle : IsCocycle K p r = included K A p r R in (
        lifted,
        lift-is ∙ λ i.
            unless (cocycle-unbroken K p r cocycle i) NotCocycle
            (unless (outside-none K A r p R.cochain i) OnPart (where_zero (zero-class K k p r cocycle is i) differs lifted)),
      )

pub lift-connects : (K A : Complex) → IsComplex K → IsComplex A → IsPart K A → (p : ℕ) (r c : Ids) → IsChain K (suc p) r
    → lift K A (suc p) r ≡ Ok c → IsCocycle A p c × (connect K A p c ≡ relative_class_of K A (suc p) r)
lift-connects K A k a_ok part p r c chain e =
    let s = sound K A (suc p) r k chain c e in
    let u = set_of (canonical_bound K (suc p) r) in
    let U : IsCanonicalBound K p r u = bound K k p r chain s.1 in
    let cocycle : IsCocycle A p (moved K A u) = lifted-cocycle K A k a_ok part p r u s.0 U.chain (λ x lt. sym (U.bounds x lt)) in
    let same = lifted-same K A k a_ok part p r u s.0 U.chain (λ x lt. sym (U.bounds x lt)) in
    let e' = connecting_cochain K A (moved K A u) in
    let R' : IsRelativeCocycle K A (suc p) e' =
    subst (λ q. IsRelativeCocycle K A q e') (add-one p) (connected K A k a_ok part p (moved K A u) cocycle) in
    subst (λ z. IsCocycle A p z × (connect K A p z ≡ relative_class_of K A (suc p) r)) s.2
    (cocycle, (relative.class-same K A k a_ok part (suc p) e' r R' s.0).1 (subst (IsRelativeCoboundary K A (suc p)) (plus-comm r e') same))

pub lift-zero : (K A : Complex) → IsComplex K → (r c : Ids) → IsChain K 0 r → lift K A 0 r ≡ Ok c → (r ≡ empty) × (c ≡ empty)
lift-zero K A k r c chain e =
    let s = sound K A 0 r k chain c e in
    (s.1, sym s.2 ∙ ap (λ w. moved K A (set_of w)) (canonical_bound-zero K r) ∙ moved-empty K A)

module _ (K A : Complex) (p : ℕ) (z : Ids) where
  abbrev differs_on : ℕ → NotTaken
  differs_on j = Differs (essential_at A p j)

  abbrev shrunk_by : Ids
  shrunk_by = coboundary K (moved A K (set_of (canonical_bound A p (moved K A z))))

  abbrev shrunk : Ids
  shrunk = plus z shrunk_by

  shrink-is : shrink K A p z ≡ unless (first_broken K z) NotCocycle (where_zero (class_of A p (moved K A z)) differs_on shrunk)
  unfolding shrink
  shrink-is = refl

  pub shrink-broken : (x : ℕ) → (shrink K A p z ≡ Err (NotCocycle x)) ↔ (first_broken K z ≡ Some x)
  shrink-broken x = (
    λ e. ⊎_elim
        (λ (first : (y : ℕ) × (first_broken K z ≡ Some y) × (NotCocycle y ≡ NotCocycle x)). first.1 ∙ ap (λ z. Some (id_of z)) first.2)
        (λ (rest : (first_broken K z ≡ None) × (where_zero (class_of A p (moved K A z)) differs_on shrunk ≡ Err (NotCocycle x))).
        let s = where_zero-cases (class_of A p (moved K A z)) differs_on shrunk (NotCocycle x) rest.1 in
        absurd (omega (arith, ap kind s.3)))
        (unless-cases (first_broken K z) NotCocycle (where_zero (class_of A p (moved K A z)) differs_on shrunk) (NotCocycle x) (sym shrink-is ∙ e)),
    λ e. shrink-is ∙ unless-told (first_broken K z) NotCocycle (where_zero (class_of A p (moved K A z)) differs_on shrunk) x e,
  )

  pub shrink-different : IsCocycle K p z → (j : ℕ) (w : List ℕ) → class_of A p (moved K A z) ≡ j ∷ w → shrink K A p z ≡ Err (Differs (essential_at A p j))
  shrink-different cocycle j w e =
      shrink-is ∙ λ i. unless (cocycle-unbroken K p z cocycle i) NotCocycle (where_zero (e i) differs_on shrunk)

  module _ (k : IsComplex K) (a_ok : IsComplex A) (part : IsPart K A) where
    pub shrink-differs : (h : ℕ) → IsChain K p z → shrink K A p z ≡ Err (Differs h) → IsCocycle K p z × (IsCoboundary A p (moved K A z) → ⊥)
    shrink-differs h chain e = ⊎_elim
        (λ (first : (y : ℕ) × (first_broken K z ≡ Some y) × (NotCocycle y ≡ Differs h)). absurd (omega (arith, ap kind first.2)))
        (λ (rest : (first_broken K z ≡ None) × (where_zero (class_of A p (moved K A z)) differs_on shrunk ≡ Err (Differs h))).
        let s = where_zero-cases (class_of A p (moved K A z)) differs_on shrunk (Differs h) rest.1 in
        let cocycle : IsCocycle K p z = unbroken-cocycle K p z chain rest.0 in (
          cocycle,
          λ is. first-some (class_of A p (moved K A z)) s.1 s.0
              (zero-class A a_ok p (moved K A z) (restricted K A k a_ok part p z cocycle) is) s.2,
        ))
        (unless-cases (first_broken K z) NotCocycle (where_zero (class_of A p (moved K A z)) differs_on shrunk) (Differs h) (sym shrink-is ∙ e))

    pub shrink-taken : IsCocycle K p z → IsCoboundary A p (moved K A z) → (c : Ids) × (shrink K A p z ≡ Ok c)
    shrink-taken cocycle is = (
      shrunk,
      shrink-is ∙ λ i.
          unless (cocycle-unbroken K p z cocycle i) NotCocycle
          (where_zero (zero-class A a_ok p (moved K A z) (restricted K A k a_ok part p z cocycle) is i) differs_on shrunk),
    )

-- what is added is a coboundary with the same members in A
record Shrinks (K A : Complex) (p : ℕ) (z d : Ids) : Type 0 where
  pub chain : IsChain K p d
  pub coboundary : IsCoboundary K p d
  pub restricts : moved K A d ≡ moved K A z

shrinks : (K A : Complex) → IsComplex K → IsComplex A → IsPart K A → (p : ℕ) (z : Ids) → IsCocycle K p z → IsCoboundary A p (moved K A z)
    → Shrinks K A p z (shrunk_by K A p z)
shrinks K A k a_ok part zero z cocycle is = subst (Shrinks K A 0 z) (sym none) (record {
  chain = empty-chain K 0;
  coboundary = refl;
  restricts = moved-empty K A ∙ sym is;
})
  where
    none : shrunk_by K A 0 z ≡ empty
    none =
        ap (λ w. coboundary K (moved A K (set_of w))) (canonical_bound-zero A (moved K A z))
        ∙ ap (coboundary K) (moved-empty A K)
        ∙ same_members _ _ (λ x. odd-none (length K) _ (λ t _. refl))
shrinks K A k a_ok part (suc p) z cocycle is =
    let e = moved K A z in
    let v = set_of (canonical_bound A (suc p) e) in
    let chain : IsChain A (suc p) e = moved-chain K A (suc p) z cocycle.cochain in
    let V : IsCanonicalBound A p e v = bound A a_ok p e chain is in
    record {
      chain = connecting-chain K A k a_ok part p v V.chain;
      coboundary = (moved A K v, moved-chain A K p v V.chain, λ x _. refl);
      restricts = connecting-bounds K A k a_ok part p e v chain V.chain (λ x lt. sym (V.bounds x lt));
    }

pub shrink-given : (K A : Complex) → IsComplex K → IsComplex A → IsPart K A → (p : ℕ) (z c : Ids) → IsChain K p z → shrink K A p z ≡ Ok c
    → IsCocycle K p z × IsCoboundary A p (moved K A z) × IsRelativeCocycle K A p c × IsCoboundary K p (plus z c)
shrink-given K A k a_ok part p z c chain e =
    let first = unless-ok (first_broken K z) NotCocycle (where_zero (class_of A p (moved K A z)) (differs_on K A p z) (shrunk K A p z)) c (sym (shrink-is K A p z) ∙ e) in
    let second = where_zero-ok (class_of A p (moved K A z)) (differs_on K A p z) (shrunk K A p z) c first.1 in
    let cocycle : IsCocycle K p z = unbroken-cocycle K p z chain first.0 in
    let is : IsCoboundary A p (moved K A z) = class-coboundary A a_ok p (moved K A z) (restricted K A k a_ok part p z cocycle) second.0 in
    let d : Ids = shrunk_by K A p z in
    let S : Shrinks K A p z d = shrinks K A k a_ok part p z cocycle is in (
      cocycle,
      is,
      subst (IsRelativeCocycle K A p) second.1 (shrunk-cocycle K A k a_ok part p z d cocycle S.chain S.coboundary S.restricts),
      subst (λ y. IsCoboundary K p (plus z y)) second.1 (subst (IsCoboundary K p) (sym (plus-twice z d)) S.coboundary),
    )
