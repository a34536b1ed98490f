-- The Bockstein by faces. K is a complex, a a cochain.
--     count-more, count-next     the numbers of a range that pass a test, and one more
--     bockstein-is         the Bockstein by the numbers of faces
--     face-value           the value at the face without the vertex at a place
--     over-wide            cofaces of members are no vertices
--     bockstein-over       the Bockstein of a cocycle of degree at least 1 is 1 only at cofaces of members
use Rattle.std.proofs.Common.{◌≡◌, ℕ, zero, suc, ◌+◌, ◌-◌, ◌/◌, ◌%◌, ◌<◌, Bool, true, false, cond, List, length, nat_eq, sym, ap, ◌∙◌, arith, add-one}
use Rattle.std.specs.Prelude.{slice_index}
use Rattle.std.specs.List.{All, count_by, range_with_len, remove}
use Rattle.std.proofs.lemmas.List.Sums.{sum_by-cons}
use Rattle.homology.specs.Sets.{Ids, set_of}
use Rattle.homology.specs.Complexes.{Complex, IsComplex, simplex_at}
use Rattle.homology.specs.Chains.{IsCocycle}
use Rattle.homology.proofs.ListSetLaws.{set_of-All}
use Rattle.products.specs.Products.{value_at, cup}
use Rattle.products.proofs.ValueLaws.{value_at-there}
use Rattle.cohomology_operations.specs.Bocksteins.{bockstein, faces_with}
use Rattle.cohomology_operations.proofs.SquareLaws.{square-small}
use Rattle.cohomology_operations.proofs.BocksteinLaws.{bockstein-square}
use Rattle.complex_store.specs.Located.{AreFaces}
use Rattle.cup_i.specs.Above.{IsAbove}
use Rattle.cup_i.proofs.AboveLaws.{over-first}
use Rattle.complex_store.proofs.FrontLaws.{face-at, face-count}

abbrev one : Bool → ℕ
one b = cond b 1 0

count-more : (p : ℕ → Bool) (a n : ℕ) → count_by p (range_with_len a (suc n)) ≡ count_by p (range_with_len a n) + cond (p (a + n)) 1 0
count-more p a zero =
    sum_by-cons (λ k. one (p k)) a (range_with_len (a + 1) zero) ∙ omega (arith, ap (λ k. one (p k)) here)
  where
    here : a + 0 ≡ a
    here = omega arith
count-more p a (suc n) =
    sum_by-cons (λ k. one (p k)) a (range_with_len (a + 1) (suc n))
    ∙ omega (
      arith,
      count-more p (a + 1) n,
      sum_by-cons (λ k. one (p k)) a (range_with_len (a + 1) n),
      ap (λ k. one (p k)) here,
    )
  where
    here : a + 1 + n ≡ a + suc n
    here = omega arith

pub count-next : (p : ℕ → Bool) (n : ℕ) (b : Bool) (old new : ℕ) → p n ≡ b → new ≡ old + cond b 1 0 → old ≡ count_by p (range_with_len 0 n)
    → new ≡ count_by p (range_with_len 0 (n + 1))
count-next p n b old new e step is =
    step
    ∙ (λ i. is i + one (sym e i))
    ∙ ap (λ k. count_by p (range_with_len 0 n) + one (p k)) (sym first)
    ∙ sym (count-more p 0 n)
    ∙ ap (λ k. count_by p (range_with_len 0 k)) (sym (add-one n))
  where
    first : 0 + n ≡ n
    first = omega arith

pub bockstein-is : (K : Complex) (a : Ids) (x m n d : ℕ) → m ≡ faces_with (value_at K a) 0 (simplex_at K x) → n ≡ faces_with (value_at K a) 1 (simplex_at K x)
    → d ≡ (m - n) + (n - m) → nat_eq (d / 2 % 2) 1 ≡ bockstein K a x
unfolding bockstein
bockstein-is K a x m n d e f is = ap (λ k. nat_eq (k / 2 % 2) 1) (is ∙ (λ i. (e i - f i) + (f i - e i)))

module _ (K : Complex) (ok : IsComplex K) where
  pub face-value : (a : Ids) (s ids : List ℕ) (place : ℕ) → AreFaces K s ids → 1 < length s → place < length ids
      → value_at K a (remove s place) ≡ a (slice_index ids (length ids - 1 - place))
  face-value a s ids place are wide lt =
      let many : length ids ≡ length s = face-count K s ids are wide in
      let back : length s - 1 - (length ids - 1 - place) ≡ place = omega (arith, many, lt) in
      let at : length ids - 1 - place < length ids = omega (arith, lt) in
      ap (value_at K a) (sym (ap (remove s) back) ∙ sym (face-at K s ids (length ids - 1 - place) are wide (omega (arith, at, many))))
      ∙ value_at-there K ok a (slice_index ids (length ids - 1 - place)) (are.within (length ids - 1 - place) 0 at)

  pub bockstein-over : (p : ℕ) (a : Ids) → IsCocycle K p a → 0 < p → (xs : List ℕ) → IsAbove K false a (p + 1 + 1) xs
      → (x : ℕ) → bockstein K a x ≡ true → set_of xs x ≡ true
  bockstein-over p a A some xs above x odd =
      let as_product : bockstein K a ≡ cup K (p - 1) a a = bockstein-square K ok p a A ∙ square-small K 1 p a (omega (arith, some)) in
      over-first K ok (p - 1) p p (p + 1 + 1) a a A.cochain A.cochain (omega (arith, some)) xs x (sym (ap (λ z. z x) as_product) ∙ odd) false (λ e. absurd (cc)) above

pub over-wide : (K : Complex) (a : Ids) (p : ℕ) (xs : List ℕ) → IsAbove K false a (p + 1 + 1) xs → All (λ x. 1 < length (simplex_at K x)) xs
over-wide K a p xs above = set_of-All (λ x. 1 < length (simplex_at K x)) xs (λ x m. omega (arith, above.wide x m))
