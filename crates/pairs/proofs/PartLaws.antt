-- A part of a complex, and cochains that go from one to the other.
--     there-id, id-there          a simplex that is there has an id, and back
--     find-none, none-find, find-some, part-found, part-finds, part-told     the search for a simplex that is not within
--     moved-at, moved-restricted, moved-outside     values
--     moved-same, moved-plus, moved-empty           what is moved depends on values alone, and is additive
--     moved-source, moved-chain   a member comes from a member with the same vertices, so degrees stay
--     moved-back                  a cochain of the part, taken as one of the whole, restricts to itself
--     relative-none, none-relative     the relative cochains are those that restrict to nothing
--     coboundary-moved            restriction commutes with the coboundary
--     coboundary-chain, coboundary-coboundary     the coboundary of a cochain: its degree, and its own coboundary
use Rattle.std.proofs.Common.{◌≡◌, ℕ, suc, ◌+◌, ◌<◌, ◌≤◌, Bool, true, false, cond, ◌&&◌, not, List, [], ◌∷◌, length, nat_lt, refl, sym, ap, ◌∙◌, subst, arith, ⊎_elim, lt-ltb, ltb-true, find}
use Rattle.std.specs.Prelude.{Some, None, ◌↔◌, ◌-◌}
use Rattle.std.specs.Option.{unwrap_or}
use Rattle.std.proofs.lemmas.Bool.{true≢false, and_parts, cases_Bool, cases_lt, false_from_ne_true, not-false, not-true, not_from_true, or_cases, or_right}
use Rattle.std.proofs.lemmas.Option.{none-some}
use Rattle.std.proofs.lemmas.List.Folds.{list_any_at}
use Rattle.homology.specs.Sets.{Ids, empty, plus, evaluate}
use Rattle.homology.specs.Simplices.{same_list}
use Rattle.homology.specs.Order.{in_simplex_order}
use Rattle.homology.specs.Complexes.{Complex, simplex_at, incidence, IsComplex}
use Rattle.homology.specs.Growth.{is_there}
use Rattle.homology.specs.Chains.{IsChain, IsCocycle, boundary_of, coboundary}
use Rattle.homology.proofs.ParityLaws.{and-false, and-xor, odd-same}
use Rattle.homology.proofs.SetLaws.{same_members}
use Rattle.homology.proofs.EvaluationLaws.{evaluate-coboundary, evaluate-empty}
use Rattle.homology.proofs.BoundaryLaws.{same_list-true, same_list-same, odd-some, incidence-dim, FaceAt, FaceAt-incidence, simplex_at-within, boundary-boundary_of}
use Rattle.homology.proofs.FaceLists.{Picks, Picks-self, there-first}
use Rattle.products.specs.Products.{value_at}
use Rattle.products.proofs.ValueLaws.{Found, value_at-there, value_at-other, value_at-empty, value_at-plus, value_at-found, faces-delta, value_at-coboundary}
use Rattle.products.proofs.CoboundaryLaw.{coboundary-outside}
use Rattle.manifolds.proofs.OrderedLaws.{there-ordered}
use Rattle.pairs.specs.Pairs.{not_within, IsPart, moved, IsRelativeChain}

-- what is there has an id
pub there-id : (L : Complex) (s : List ℕ) → is_there L s ≡ true → Found L s
there-id [] s e = absurd (true≢false (sym e))
there-id (t ∷ L) s e = ⊎_elim
    (λ (here : same_list s t ≡ true). record { id = 0; within = omega arith; is = sym (same_list-true s t here) })
    (λ (later : is_there L s ≡ true).
    let rest : Found L s = there-id L s later in
    record { id = suc rest.id; within = omega (arith, rest.within); is = rest.is })
    (or_cases (same_list s t) (is_there L s) e)

pub id-there : (L : Complex) (y : ℕ) → y < length L → is_there L (simplex_at L y) ≡ true
id-there L y lt = list_any_at (same_list (simplex_at L y)) L y [] lt (same_list-same (simplex_at L y) (simplex_at L y) refl)

module _ (test : List ℕ → Bool) where
  find-there : (t : List ℕ) (L : Complex) → test t ≡ true → find test (t ∷ L) ≡ Some t
  find-there t L e = ap (λ b. cond b (Some t) (find test L)) e

  find-later : (t : List ℕ) (L : Complex) → test t ≡ false → find test (t ∷ L) ≡ find test L
  find-later t L e = ap (λ b. cond b (Some t) (find test L)) e

  -- none passes
  find-none : (L : Complex) → find test L ≡ None → (u : List ℕ) → is_there L u ≡ true → test u ≡ false
  find-none [] e u h = absurd (true≢false (sym h))
  find-none (t ∷ L) e u h = ⊎_elim
      (λ (passes : test t ≡ true). absurd (none-some t (sym e ∙ find-there t L passes)))
      (λ (fails : test t ≡ false). ⊎_elim
      (λ (here : same_list u t ≡ true). ap test (same_list-true u t here) ∙ fails)
      (λ (later : is_there L u ≡ true). find-none L (sym (find-later t L fails) ∙ e) u later)
      (or_cases (same_list u t) (is_there L u) h))
      (cases_Bool (test t))

  none-find : (L : Complex) → ((u : List ℕ) → is_there L u ≡ true → test u ≡ false) → find test L ≡ None
  none-find [] h = refl
  none-find (t ∷ L) h =
      find-later t L (h t (there-first t L)) ∙ none-find L (λ u e. h u (or_right (same_list u t) (is_there L u) e))

  -- one passes
  find-some : (L : Complex) (u : List ℕ) → find test L ≡ Some u → (is_there L u ≡ true) × (test u ≡ true)
  find-some [] u e = absurd (none-some u e)
  find-some (t ∷ L) u e = ⊎_elim
      (λ (passes : test t ≡ true).
      let same : t ≡ u = ap (λ o. unwrap_or o t) (sym (find-there t L passes) ∙ e) in
      (subst (λ z. is_there (t ∷ L) z ≡ true) same (there-first t L), ap test (sym same) ∙ passes))
      (λ (fails : test t ≡ false).
      let rest : (is_there L u ≡ true) × (test u ≡ true) = find-some L u (sym (find-later t L fails) ∙ e) in
      (or_right (same_list u t) (is_there L u) rest.0, rest.1))
      (cases_Bool (test t))

module _ (K A : Complex) where
  abbrev missing : List ℕ → Bool
  missing s = not (is_there K s)

  not_within-is : not_within K A ≡ find missing (in_simplex_order A)
  unfolding not_within
  not_within-is = refl

  part-found : not_within K A ≡ None → IsPart K A
  part-found e s h =
      not-false (is_there K s) (find-none missing (in_simplex_order A) (sym not_within-is ∙ e) s (there-ordered A s ∙ h))

  part-finds : IsPart K A → not_within K A ≡ None
  part-finds part =
      not_within-is
      ∙ none-find missing (in_simplex_order A) (λ s h. not_from_true (is_there K s) (part s (sym (there-ordered A s) ∙ h)))

  pub part-search : (not_within K A ≡ None) ↔ IsPart K A
  part-search = (part-found, part-finds)

  pub part-told : (s : List ℕ) → not_within K A ≡ Some s → (is_there A s ≡ true) × (is_there K s ≡ false)
  part-told s e =
      let found = find-some missing (in_simplex_order A) s (sym not_within-is ∙ e) in
      (sym (there-ordered A s) ∙ found.0, not-true (is_there K s) found.1)

  pub moved-at : (c : Ids) (t : ℕ) → t < length A → moved K A c t ≡ value_at K c (simplex_at A t)
  unfolding moved
  moved-at c t lt = ap (λ b. b && value_at K c (simplex_at A t)) (lt-ltb t (length A) lt)

  pub moved-within : (c : Ids) (t : ℕ) → moved K A c t ≡ true → t < length A
  unfolding moved
  moved-within c t e = ltb-true t (length A) (and_parts (nat_lt t (length A)) (value_at K c (simplex_at A t)) e).0

  pub moved-past : (c : Ids) (t : ℕ) → length A ≤ t → moved K A c t ≡ false
  moved-past c t le = false_from_ne_true (moved K A c t) (λ e. omega (arith, le, moved-within c t e))

  -- the value of c
  pub moved-restricted : IsComplex K → (c : Ids) (t y : ℕ) → t < length A → y < length K → simplex_at A t ≡ simplex_at K y → moved K A c t ≡ c y
  moved-restricted k c t y t_in y_in e = moved-at c t t_in ∙ ap (value_at K c) e ∙ value_at-there K k c y y_in

  -- none where K has no such simplex
  pub moved-outside : (c : Ids) (t : ℕ) → is_there K (simplex_at A t) ≡ false → moved K A c t ≡ false
  unfolding moved
  moved-outside c t none =
      ap (λ b. nat_lt t (length A) && b) (value_at-other K c (simplex_at A t) none) ∙ and-false (nat_lt t (length A))

  value-same : (b c : Ids) (s : List ℕ) → ((x : ℕ) → x < length K → b x ≡ c x) → value_at K b s ≡ value_at K c s
  unfolding value_at
  value-same b c s e = odd-same (length K) _ _ (λ x lt. ap (λ v. v && same_list s (simplex_at K x)) (e x lt))

  pub moved-same : (b c : Ids) → ((x : ℕ) → x < length K → b x ≡ c x) → moved K A b ≡ moved K A c
  unfolding moved
  moved-same b c e = λ i t. nat_lt t (length A) && value-same b c (simplex_at A t) e i

  pub moved-plus : (b c : Ids) → moved K A (plus b c) ≡ plus (moved K A b) (moved K A c)
  unfolding moved
  moved-plus b c = same_members _ _ (λ t.
      ap (λ v. nat_lt t (length A) && v) (value_at-plus K b c (simplex_at A t))
      ∙ and-xor (nat_lt t (length A)) (value_at K b (simplex_at A t)) (value_at K c (simplex_at A t)))

  -- a member comes from a member
  pub moved-source : (c : Ids) (t : ℕ) → moved K A c t ≡ true
      → (y : ℕ) × (y < length K) × (simplex_at K y ≡ simplex_at A t) × (c y ≡ true)
  moved-source c t e = value_at-found K c (simplex_at A t) (sym (moved-at c t (moved-within c t e)) ∙ e)

  pub moved-chain : (p : ℕ) (c : Ids) → IsChain K p c → IsChain A p (moved K A c)
  moved-chain p c chain = record {
    there = moved-within c;
    degree = λ t e. let s = moved-source c t e in ap (λ z. length z - 1) (sym s.2) ∙ chain.degree s.0 s.3;
  }

  pub moved-empty : moved K A empty ≡ empty
  moved-empty = same_members _ _ (λ t. false_from_ne_true (moved K A empty t) (λ e. true≢false (sym (moved-source empty t e).3)))

  -- a relative cochain restricts to nothing
  pub relative-none : (p : ℕ) (c : Ids) → IsRelativeChain K A p c → moved K A c ≡ empty
  relative-none p c R = same_members _ _ (λ t. false_from_ne_true (moved K A c t) (λ e.
      let s = moved-source c t e in
      true≢false (sym (id-there A t (moved-within c t e)) ∙ ap (is_there A) (sym s.2) ∙ R.outside s.0 s.3)))

  -- and what restricts to nothing is one
  pub none-relative : IsComplex K → (p : ℕ) (c : Ids) → IsChain K p c → moved K A c ≡ empty → IsRelativeChain K A p c
  none-relative k p c chain none = record {
    chain = chain;
    outside = λ t e. false_from_ne_true (is_there A (simplex_at K t)) (λ h.
        let s : Found A (simplex_at K t) = there-id A (simplex_at K t) h in
        true≢false (sym e ∙ sym (moved-restricted k c s.id t s.within (chain.there t e) s.is) ∙ ap (λ z. z s.id) none));
  }

-- a member of a coboundary has a face among the members
abbrev Faced : Complex → Ids → ℕ → Type 0
Faced K a x = (t : ℕ) × (a t ≡ true) × (incidence K t x ≡ true)

faced : (K : Complex) (a : Ids) (x : ℕ) → coboundary K a x ≡ true → Faced K a x
faced K a x e =
    let some = odd-some (length K) (λ t. a t && incidence K t x) e in
    let both = and_parts (a some.0) (incidence K some.0 x) some.2 in
    (some.0, both.0, both.1)

faced-within : (K : Complex) (a : Ids) (x : ℕ) → Faced K a x → x < length K
faced-within K a x f =
    let at : FaceAt (simplex_at K f.0) (simplex_at K x) = FaceAt-incidence K f.0 x f.2 in
    simplex_at-within K x (omega (arith, at.wide))

pub coboundary-chain : (K : Complex) → IsComplex K → (p : ℕ) (a : Ids) → IsChain K p a → IsChain K (p + 1) (coboundary K a)
coboundary-chain K k p a chain = record {
  there = λ x e. faced-within K a x (faced K a x e);
  degree = λ x e.
      let f = faced K a x e in
      incidence-dim K k f.0 x (faced-within K a x f) f.2 ∙ ap (λ d. d + 1) (chain.degree f.0 f.1);
}

pub coboundary-coboundary : (K : Complex) → IsComplex K → (a : Ids) (x : ℕ) → x < length K → coboundary K (coboundary K a) x ≡ false
coboundary-coboundary K k a x lt =
    evaluate-coboundary K a (boundary_of K x)
    ∙ ap (evaluate (length K) a) (boundary-boundary_of K k x lt)
    ∙ evaluate-empty (length K) a

-- the coboundary of a cocycle has no member at all
pub cocycle-none : (K : Complex) (p : ℕ) (a : Ids) → IsCocycle K p a → coboundary K a ≡ empty
cocycle-none K p a cocycle = same_members _ _ (λ x. ⊎_elim
    (λ (lt : x < length K). cocycle.closed x lt)
    (λ (le : length K ≤ x). coboundary-outside K a x le)
    (cases_lt x (length K)))

module _ (K A : Complex) (k : IsComplex K) (a_ok : IsComplex A) (part : IsPart K A) where
  -- the id in K of a simplex of A
  in_whole : (t : ℕ) → t < length A → Found K (simplex_at A t)
  in_whole t lt = there-id K (simplex_at A t) (part (simplex_at A t) (id-there A t lt))

  pub moved-back : (p : ℕ) (a : Ids) → IsChain A p a → moved K A (moved A K a) ≡ a
  moved-back p a chain = same_members _ _ (λ t. ⊎_elim
      (λ (lt : t < length A).
      let y : Found K (simplex_at A t) = in_whole t lt in
      moved-restricted K A k (moved A K a) t y.id lt y.within (sym y.is)
      ∙ moved-restricted A K a_ok a y.id t y.within lt y.is)
      (λ (le : length A ≤ t).
      moved-past K A (moved A K a) t le ∙ sym (false_from_ne_true (a t) (λ e. omega (arith, le, chain.there t e))))
      (cases_lt t (length A)))

  coboundary-inside : (c : Ids) (x : ℕ) → x < length A → coboundary A (moved K A c) x ≡ moved K A (coboundary K c) x
  coboundary-inside c x lt =
      let y : Found K (simplex_at A x) = in_whole x lt in
      odd-same (length A) _ _ (λ t t_in. ap (λ v. v && incidence A t x) (moved-at K A c t t_in))
      ∙ faces-delta A a_ok (value_at K c) (value_at-empty K k c) x lt
      ∙ sym (value_at-coboundary K k c y.id (simplex_at A x) y.within (subst (Picks (simplex_at A x)) (sym y.is) (Picks-self (simplex_at A x))))
      ∙ sym (moved-at K A (coboundary K c) x lt)

  pub coboundary-moved : (c : Ids) → coboundary A (moved K A c) ≡ moved K A (coboundary K c)
  coboundary-moved c = same_members _ _ (λ x. ⊎_elim
      (λ (lt : x < length A). coboundary-inside c x lt)
      (λ (le : length A ≤ x). coboundary-outside A (moved K A c) x le ∙ sym (moved-past K A (coboundary K c) x le))
      (cases_lt x (length A)))

  pub relative-restriction : (p : ℕ) (c : Ids) → IsChain K p c → (moved K A c ≡ empty) ↔ IsRelativeChain K A p c
  relative-restriction p c chain = (none-relative K A k p c chain, relative-none K A p c)
