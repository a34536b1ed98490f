-- Refusals of maps, and images of simplices.
--     find-none, none-find, find-some     the first that passes a test: none does, or it is one that does
--     refusal-accepts                     nothing is refused exactly where m is a map
--     refusal-turned, refusal-no_image    what is told of an edge, and of a simplex without an image
--     any-some                            some list of a complex passes, by its id
use Rattle.std.proofs.Common.{◌≡◌, ℕ, suc, ◌<◌, ◌≤◌, Bool, true, false, cond, not, List, [], ◌∷◌, length, refl, sym, ap, ◌∙◌, subst, arith, ⊎_elim, find}
use Rattle.std.specs.Prelude.{Option, Some, None, ◌↔◌}
use Rattle.std.specs.List.{list_any}
use Rattle.std.specs.Option.{is_some, unwrap_or}
use Rattle.std.proofs.lemmas.Bool.{true≢false, not-false, not_from_true, not-true, cases_Bool, or_cases, or_right, ltb-false, le-ltb}
use Rattle.homology.specs.Simplices.{same_list}
use Rattle.homology.specs.Order.{in_simplex_order}
use Rattle.homology.specs.Complexes.{Complex, simplex_at}
use Rattle.homology.specs.Growth.{is_there}
use Rattle.homology.proofs.BoundaryLaws.{same_list-true}
use Rattle.homology.proofs.FaceLists.{there-first}
use Rattle.manifolds.proofs.OrderedLaws.{there-ordered}
use Rattle.maps.specs.Maps.{Refusal, Turned, NoImage, turns, has_image, told, refusal, IsMap}

-- an option is none or not
some-none : {A : Type 0} (x : A) → Some x ≡ None → ⊥
some-none x e = true≢false (ap is_some e)

module _ (test : List ℕ → Bool) where
  find-there : (t : List ℕ) (L : Complex) → test t ≡ true → find test (t ∷ L) ≡ Some t
  find-there t L e = ap (λ b. cond b (Some t) (find test L)) e

  find-later : (t : List ℕ) (L : Complex) → test t ≡ false → find test (t ∷ L) ≡ find test L
  find-later t L e = ap (λ b. cond b (Some t) (find test L)) e

  pub find-none : (L : Complex) → find test L ≡ None → (u : List ℕ) → is_there L u ≡ true → test u ≡ false
  find-none [] e u h = absurd (true≢false (sym h))
  find-none (t ∷ L) e u h = ⊎_elim
      (λ (passes : test t ≡ true). absurd (some-none t (sym (find-there t L passes) ∙ e)))
      (λ (fails : test t ≡ false). ⊎_elim
      (λ (here : same_list u t ≡ true). ap test (same_list-true u t here) ∙ fails)
      (λ (later : is_there L u ≡ true). find-none L (sym (find-later t L fails) ∙ e) u later)
      (or_cases (same_list u t) (is_there L u) h))
      (cases_Bool (test t))

  pub none-find : (L : Complex) → ((u : List ℕ) → is_there L u ≡ true → test u ≡ false) → find test L ≡ None
  none-find [] h = refl
  none-find (t ∷ L) h =
      find-later t L (h t (there-first t L)) ∙ none-find L (λ u e. h u (or_right (same_list u t) (is_there L u) e))

  pub find-some : (L : Complex) (u : List ℕ) → find test L ≡ Some u → (is_there L u ≡ true) × (test u ≡ true)
  find-some [] u e = absurd (some-none u (sym e))
  find-some (t ∷ L) u e = ⊎_elim
      (λ (passes : test t ≡ true).
      let same : t ≡ u = some-same t u (sym (find-there t L passes) ∙ e) in
      (subst (λ z. is_there (t ∷ L) z ≡ true) same (there-first t L), ap test (sym same) ∙ passes))
      (λ (fails : test t ≡ false).
      let rest : (is_there L u ≡ true) × (test u ≡ true) = find-some L u (sym (find-later t L fails) ∙ e) in
      (or_right (same_list u t) (is_there L u) rest.0, rest.1))
      (cases_Bool (test t))
    where
      some-same : (t u : List ℕ) → Some t ≡ Some u → t ≡ u
      some-same t u e = ap (λ o. unwrap_or o t) e

-- some list passes, and it has an id
pub any-some : (test : List ℕ → Bool) (L : Complex) → list_any test L ≡ true → (y : ℕ) × (y < length L) × (test (simplex_at L y) ≡ true)
any-some test [] e = absurd (true≢false (sym e))
any-some test (t ∷ L) e = ⊎_elim
    (λ (here : test t ≡ true). (0, omega arith, here))
    (λ (later : list_any test L ≡ true).
    let rest : (y : ℕ) × (y < length L) × (test (simplex_at L y) ≡ true) = any-some test L later in
    (suc rest.0, omega (arith, rest.1), rest.2))
    (or_cases (test t) (list_any test L) e)

told-none : (a b : Option (List ℕ)) → told a b ≡ None → (a ≡ None) × (b ≡ None)
told-none (Some e) b h = absurd (some-none (Turned e) h)
told-none None (Some s) h = absurd (some-none (NoImage s) h)
told-none None None h = (refl, refl)

-- what is told of an edge, and of a simplex without an image
abbrev turned_of : Option Refusal → Option (List ℕ)
turned_of None = None
turned_of (Some (Turned e)) = Some e
turned_of (Some (NoImage s)) = None

abbrev no_image_of : Option Refusal → Option (List ℕ)
no_image_of None = None
no_image_of (Some (Turned e)) = None
no_image_of (Some (NoImage s)) = Some s

told-turned : (a b : Option (List ℕ)) (e : List ℕ) → told a b ≡ Some (Turned e) → a ≡ Some e
told-turned (Some x) b e h = ap turned_of h
told-turned None (Some s) e h = absurd (some-none e (sym (ap turned_of h)))
told-turned None None e h = absurd (some-none e (sym (ap turned_of h)))

told-no_image : (a b : Option (List ℕ)) (s : List ℕ) → told a b ≡ Some (NoImage s) → (a ≡ None) × (b ≡ Some s)
told-no_image (Some x) b s h = absurd (some-none s (sym (ap no_image_of h)))
told-no_image None (Some x) s h = (refl, ap no_image_of h)
told-no_image None None s h = absurd (some-none s (sym (ap no_image_of h)))

module _ (K A : Complex) (m : ℕ → ℕ) where
  abbrev lacks : List ℕ → Bool
  lacks s = not (has_image A m s)

  refusal-is : refusal K A m ≡ told (find (turns m) (in_simplex_order K)) (find lacks (in_simplex_order K))
  unfolding refusal
  refusal-is = refl

  edges-keep : find (turns m) (in_simplex_order K) ≡ None → (u v : ℕ) → is_there K (u ∷ v ∷ []) ≡ true → m u ≤ m v
  edges-keep e u v h =
      ltb-false (m v) (m u) (find-none (turns m) (in_simplex_order K) e (u ∷ v ∷ []) (there-ordered K (u ∷ v ∷ []) ∙ h))

  keep-edges : ((u v : ℕ) → is_there K (u ∷ v ∷ []) ≡ true → m u ≤ m v) → (s : List ℕ) → is_there K s ≡ true → turns m s ≡ false
  keep-edges keeps [] h = refl
  keep-edges keeps (u ∷ []) h = refl
  keep-edges keeps (u ∷ v ∷ []) h = le-ltb (m v) (m u) (keeps u v h)
  keep-edges keeps (u ∷ v ∷ w ∷ s) h = refl

  accepts : refusal K A m ≡ None → IsMap K A m
  accepts e =
      let both = told-none (find (turns m) (in_simplex_order K)) (find lacks (in_simplex_order K)) (sym refusal-is ∙ e) in
      record {
        monotone = edges-keep both.0;
        into = λ s h. not-false (has_image A m s) (find-none lacks (in_simplex_order K) both.1 s (there-ordered K s ∙ h));
      }

  accepted : IsMap K A m → refusal K A m ≡ None
  accepted M =
      refusal-is
      ∙ λ i. told
      (none-find (turns m) (in_simplex_order K) (λ s h. keep-edges M.monotone s (sym (there-ordered K s) ∙ h)) i)
      (none-find lacks (in_simplex_order K) (λ s h. not_from_true (has_image A m s) (M.into s (sym (there-ordered K s) ∙ h))) i)

  pub refusal-accepts : (refusal K A m ≡ None) ↔ IsMap K A m
  refusal-accepts = (accepts, accepted)

  pub refusal-turned : (e : List ℕ) → refusal K A m ≡ Some (Turned e) → (is_there K e ≡ true) × (turns m e ≡ true)
  refusal-turned e h =
      let found = find-some (turns m) (in_simplex_order K) e
      (told-turned (find (turns m) (in_simplex_order K)) (find lacks (in_simplex_order K)) e (sym refusal-is ∙ h)) in
      (sym (there-ordered K e) ∙ found.0, found.1)

  pub refusal-no_image : (s : List ℕ) → refusal K A m ≡ Some (NoImage s)
      → (is_there K s ≡ true) × (has_image A m s ≡ false) × ((u v : ℕ) → is_there K (u ∷ v ∷ []) ≡ true → m u ≤ m v)
  refusal-no_image s h =
      let both = told-no_image (find (turns m) (in_simplex_order K)) (find lacks (in_simplex_order K)) s (sym refusal-is ∙ h) in
      let found = find-some lacks (in_simplex_order K) s both.1 in
      (sym (there-ordered K s) ∙ found.0, not-true (has_image A m s) found.1, edges-keep both.0)
