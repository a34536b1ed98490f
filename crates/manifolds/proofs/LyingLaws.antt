-- A simplex that lies in another is that one with some vertices left out.
--     lies-picks, picks-lies      of ascending lists
--     picks-through               left out twice
--     picks-step                  one vertex may be left out of a longer list
--     picks-same, picks-one       of a list of the same length it is that list; of one longer by one it is a face
use Rattle.std.proofs.Common.{◌≡◌, ℕ, suc, ◌+◌, ◌<◌, ◌≤◌, true, false, ◌||◌, List, [], ◌∷◌, length, nat_eq, refl, sym, ap, subst, ◌∙◌, arith, eq-eqb, ⊎_elim, inl, inr}
use Rattle.std.specs.List.{remove}
use Rattle.std.proofs.lemmas.Bool.{true≢false, and_parts, and_from, or_left, or_right, cases_eq, cases_lt}
use Rattle.homology.specs.Sets.{set_of}
use Rattle.homology.proofs.ParityLaws.{nat_eq-apart}
use Rattle.homology.proofs.ListSetLaws.{Rises, Rises-lower, set_of-below}
use Rattle.homology.proofs.FaceLists.{Picks, Picks-length}
use Rattle.manifolds.specs.Closed.{lies_in}

-- one vertex more on the right changes nothing
lies-more : (s t : List ℕ) (y : ℕ) → lies_in s t ≡ true → lies_in s (y ∷ t) ≡ true
lies-more [] t y e = refl
lies-more (x ∷ s) t y e =
    let both = and_parts (set_of t x) (lies_in s t) e in
    and_from (set_of (y ∷ t) x) (lies_in s (y ∷ t)) (or_right (nat_eq x y) (set_of t x) both.0) (lies-more s t y both.1)

-- one that is below all on the left may go
lies-less : (b : ℕ) (s t : List ℕ) → Rises (b + 1) s → lies_in s (b ∷ t) ≡ true → lies_in s t ≡ true
lies-less b [] t r e = refl
lies-less b (x ∷ s) t r e =
    let both = and_parts (set_of (b ∷ t) x) (lies_in s (b ∷ t)) e in
    let apart : nat_eq x b ≡ false = nat_eq-apart x b (λ q. omega (arith, r.0, q)) in
    and_from (set_of t x) (lies_in s t)
    (sym (ap (λ z. z || set_of t x) apart) ∙ both.0)
    (lies-less b s t (Rises-lower (b + 1) (x + 1) s (omega (arith, r.0)) r.1) both.1)

-- what stands in a list that rises from b is not below b
not-below : (b : ℕ) (t : List ℕ) (x : ℕ) → Rises b t → set_of t x ≡ true → b ≤ x
not-below b t x r e = ⊎_elim
    (λ (lt : x < b). absurd (true≢false (sym e ∙ set_of-below b t x r lt)))
    (λ (le : b ≤ x). le)
    (cases_lt x b)

pub lies-picks : (b c : ℕ) (s t : List ℕ) → Rises b s → Rises c t → lies_in s t ≡ true → Picks s t
lies-picks b c [] t r q e = tt
lies-picks b c (x ∷ s) [] r q e = absurd (true≢false (sym e))
lies-picks b c (x ∷ s) (y ∷ t) r q e =
    let both = and_parts (set_of (y ∷ t) x) (lies_in s (y ∷ t)) e in
    ⊎_elim
    (λ (same : x ≡ y).
    inl (same, lies-picks (x + 1) (y + 1) s t r.1 q.1 (lies-less y s t (subst (λ (z : ℕ). Rises (z + 1) s) same r.1) both.1)))
    (λ (other : x ≡ y → ⊥).
    let later : set_of t x ≡ true = sym (ap (λ z. z || set_of t x) (nat_eq-apart x y other)) ∙ both.0 in
    let above : y + 1 ≤ x = not-below (y + 1) t x q.1 later in
    inr (lies-picks (y + 1) (y + 1) (x ∷ s) t (above, r.1) q.1 (lies-less y (x ∷ s) t (above, r.1) e)))
    (cases_eq x y)

pub picks-lies : (s t : List ℕ) → Picks s t → lies_in s t ≡ true
picks-lies [] t p = refl
picks-lies (x ∷ s) [] p = absurd p
picks-lies (x ∷ s) (y ∷ t) p = ⊎_elim
    (λ (here : (x ≡ y) × Picks s t).
    and_from (set_of (y ∷ t) x) (lies_in s (y ∷ t)) (or_left (nat_eq x y) (set_of t x) (eq-eqb x y here.0)) (lies-more s t y (picks-lies s t here.1)))
    (λ (later : Picks (x ∷ s) t). lies-more (x ∷ s) t y (picks-lies (x ∷ s) t later))
    p

pub picks-through : (s t u : List ℕ) → Picks s t → Picks t u → Picks s u
picks-through [] t u p q = tt
picks-through (x ∷ s) [] u p q = absurd p
picks-through (x ∷ s) (y ∷ t) [] p q = absurd q
picks-through (x ∷ s) (y ∷ t) (z ∷ u) p q = ⊎_elim
    (λ (there : (y ≡ z) × Picks t u). ⊎_elim
    (λ (here : (x ≡ y) × Picks s t). inl (here.0 ∙ there.0, picks-through s t u here.1 there.1))
    (λ (later : Picks (x ∷ s) t). inr (picks-through (x ∷ s) t u later there.1))
    p)
    (λ (further : Picks (y ∷ t) u). inr (picks-through (x ∷ s) (y ∷ t) u p further))
    q

pub record Step (s t : List ℕ) : Type 0 where
  pub place : ℕ
  pub below : place < length t
  pub picks : Picks s (remove t place)

pub picks-step : (s t : List ℕ) → Picks s t → length s < length t → Step s t
picks-step [] [] p h = absurd (omega arith)
picks-step [] (y ∷ t) p h = record { place = 0; below = omega arith; picks = tt }
picks-step (x ∷ s) [] p h = absurd p
picks-step (x ∷ s) (y ∷ t) p h = ⊎_elim
    (λ (here : (x ≡ y) × Picks s t).
    let rest = picks-step s t here.1 (omega arith) in
    record { place = suc rest.place; below = omega (arith, rest.below); picks = inl (here.0, rest.picks) })
    (λ (later : Picks (x ∷ s) t). record { place = 0; below = omega arith; picks = later })
    p

pub picks-same : (s t : List ℕ) → Picks s t → length s ≡ length t → s ≡ t
picks-same [] [] p h = refl
picks-same [] (y ∷ t) p h = absurd (omega (arith, h))
picks-same (x ∷ s) [] p h = absurd p
picks-same (x ∷ s) (y ∷ t) p h = ⊎_elim
    (λ (here : (x ≡ y) × Picks s t). λ i. here.0 i ∷ picks-same s t here.1 (omega (arith, h)) i)
    (λ (later : Picks (x ∷ s) t). absurd (omega (arith, h, Picks-length (x ∷ s) t later)))
    p
