-- Which simplices are bounded, by their numbers of cofaces, and marks of them.
--     bounded-zero, bounded-more        whether a simplex is bounded, by the number of its cofaces, and whether one is not
--     marked-first, marked-in, marked-out
--                                       so the marks are made downwards, one simplex after the other
--     unmark-more                       one mark less
use Rattle.std.proofs.Common.{◌≡◌, ◌≢◌, ℕ, zero, suc, ◌+◌, ◌-◌, ◌<◌, ◌≤◌, Bool, true, false, not, cond, ◌&&◌, ◌||◌, List, length, take, nat_eq, refl, sym, ap, ◌∙◌, arith, eq-eqb, ⊎_elim}
use Rattle.std.specs.Prelude.{count_by, slice_index, slice_index_or}
use Rattle.std.specs.List.{range_with_len}
use Rattle.std.proofs.lemmas.Bool.{cases_eq, false_from_ne_true}
use Rattle.std.proofs.lemmas.List.Folds.{list_any_more}
use Rattle.homology.specs.Sets.{Ids, set_of}
use Rattle.homology.specs.Complexes.{Complex, IsComplex, incidence, simplex_at}
use Rattle.homology.specs.Chains.{boundary_of}
use Rattle.homology.proofs.ParityLaws.{and-false, nat_eq-apart}
use Rattle.homology.proofs.BoundaryLaws.{FaceAt-incidence, FaceAt-length, incidence-earlier}
use Rattle.cochain_values.specs.Marks.{marked}
use Rattle.manifolds.specs.Links.{degrees_left}
use Rattle.manifold_links.proofs.CountedLaws.{from-none, from-more, counted-none}
use Rattle.manifold_links.specs.Counts.{cofaces_from, AreCounted, bounded_of, is_bounded, AreBounds}

-- cofaces have one vertex more
bounded-same : (K : Complex) (x r : ℕ) → suc r ≡ degrees_left K (simplex_at K x)
    → cofaces_from K (λ t. not (is_bounded K t)) 0 x ≡ cofaces_from K (λ t. not (bounded_of K r t)) 0 x
bounded-same K x r e = ap (λ (q : ℕ → Bool). count_by q (range_with_len 0 (length K - 0))) (λ i t. by t (incidence K x t) refl i)
  where
    by : (t : ℕ) (b : Bool) → incidence K x t ≡ b → (b && not (is_bounded K t)) ≡ (b && not (bounded_of K r t))
    by t true inc = ap (λ n. not (bounded_of K n t)) (omega (arith, e, FaceAt-length (FaceAt-incidence K x t inc)))
    by t false inc = refl

pub bounded-zero : (K : Complex) (x left : ℕ) → left ≡ degrees_left K (simplex_at K x) → left ≡ 0 → true ≡ is_bounded K x
bounded-zero K x left e none = ap (λ n. bounded_of K n x) (sym none ∙ e)

pub bounded-more : (K : Complex) (x left n : ℕ) (m r : Bool) → left ≡ degrees_left K (simplex_at K x) → left ≢ 0 → n ≡ cofaces_from K (λ t. true) 0 x
    → m ≡ nat_eq (cofaces_from K (λ t. not (is_bounded K t)) 0 x) 0 → r ≡ (nat_eq n (left + 1) && m) → r ≡ is_bounded K x
bounded-more K x zero n m r e some N M is = absurd (some refl)
bounded-more K x (suc l) n m r e some N M is =
    let two : suc l + 1 ≡ suc (suc l) = omega arith in
    is
    ∙ (λ i. nat_eq (N i) (two i) && (M ∙ ap (λ k. nat_eq k 0) (bounded-same K x l e)) i)
    ∙ ap (λ k. bounded_of K k x) e

-- all are marked before the last simplex
pub marked-first : (K : Complex) (n : ℕ) (counts : List ℕ) (marks : List Bool) → n ≡ length K → ((q : ℕ) → slice_index_or counts q 0 ≡ 0)
    → ((q : ℕ) → q < n → marked marks q ≡ true) → length counts ≡ length K → length marks ≡ length K → AreBounds K n counts marks
marked-first K n counts marks e z all fc fm = record {
  counted = counted-none K (λ t. true) n counts (omega (arith, e)) z;
  early = λ x h xh. all x h ∙ ap (λ m. nat_eq m 0) (sym (from-none K (λ t. not (is_bounded K t)) n x (omega (arith, e))));
  late = λ x le xh. absurd (omega (arith, e, le, xh));
  fits_counts = fc;
  fits_marks = fm;
}

module _ (K : Complex) (c : IsComplex K) (i : ℕ) (h : i < length K) (counts : List ℕ) (marks : List Bool) (L : AreBounds K (i + 1) counts marks)
    (new : List ℕ) (C : AreCounted K (λ t. true) i new) (fits : length new ≡ length K) where
  -- a bounded simplex leaves the marks of its faces
  pub marked-in : (after : List Bool) → is_bounded K i ≡ true → ((q : ℕ) → marked after q ≡ cond (nat_eq q i) true (marked marks q)) → length after ≡ length K
      → AreBounds K i new after
  marked-in after b set long = record { counted = C; early = early; late = late; fits_counts = fits; fits_marks = long }
    where
      early : (x : ℕ) → x < i → x < length K → marked after x ≡ nat_eq (cofaces_from K (λ t. not (is_bounded K t)) i x) 0
      early x lt xh =
          let out : (incidence K x i && not (is_bounded K i)) ≡ false = ap (λ a. incidence K x i && not a) b ∙ and-false (incidence K x i) in
          set x
          ∙ ap (λ a. cond a true (marked marks x)) (nat_eq-apart x i (λ e. omega (arith, e, lt)))
          ∙ L.early x (omega (arith, lt)) xh
          ∙ ap (λ m. nat_eq m 0) (omega (arith, from-more K (λ t. not (is_bounded K t)) i x h, ap {B = ℕ} (λ a. cond a 1 0) out))

      late : (x : ℕ) → i ≤ x → x < length K → marked after x ≡ is_bounded K x
      late x le xh = ⊎_elim
          (λ (e : x ≡ i). set x ∙ ap (λ a. cond a true (marked marks x)) (eq-eqb x i e) ∙ sym (ap (is_bounded K) e ∙ b))
          (λ (other : x ≢ i). set x ∙ ap (λ a. cond a true (marked marks x)) (nat_eq-apart x i other) ∙ L.late x (omega (arith, le, other)) xh)
          (cases_eq x i)

  -- another takes them
  pub marked-out : (ids : List ℕ) (mid after : List Bool) → set_of ids ≡ boundary_of K i → is_bounded K i ≡ false
      → ((q : ℕ) → marked mid q ≡ cond (nat_eq q i) false (marked marks q)) → ((q : ℕ) → marked after q ≡ (not (set_of ids q) && marked mid q))
      → length after ≡ length K → AreBounds K i new after
  marked-out ids mid after faces b set unset long = record { counted = C; early = early; late = late; fits_counts = fits; fits_marks = long }
    where
      is : (q : ℕ) → marked after q ≡ (not (incidence K q i) && cond (nat_eq q i) false (marked marks q))
      is q = unset q ∙ (λ j. not (faces j q) && set q j)

      early : (x : ℕ) → x < i → x < length K → marked after x ≡ nat_eq (cofaces_from K (λ t. not (is_bounded K t)) i x) 0
      early x lt xh = is x ∙ by (incidence K x i) refl
        where
          old : cond (nat_eq x i) false (marked marks x) ≡ nat_eq (cofaces_from K (λ t. not (is_bounded K t)) (i + 1) x) 0
          old = ap (λ a. cond a false (marked marks x)) (nat_eq-apart x i (λ e. omega (arith, e, lt))) ∙ L.early x (omega (arith, lt)) xh

          more : cofaces_from K (λ t. not (is_bounded K t)) i x ≡ cond (incidence K x i && not (is_bounded K i)) 1 0 + cofaces_from K (λ t. not (is_bounded K t)) (i + 1) x
          more = from-more K (λ t. not (is_bounded K t)) i x h

          by : (a : Bool) → incidence K x i ≡ a → (not a && cond (nat_eq x i) false (marked marks x)) ≡ nat_eq (cofaces_from K (λ t. not (is_bounded K t)) i x) 0
          by true e = sym (nat_eq-apart (cofaces_from K (λ t. not (is_bounded K t)) i x) 0
              (λ none. omega (arith, none, more, ap {B = ℕ} (λ (p : Bool × Bool). cond (p.0 && not p.1) 1 0) (λ j. (e j, b j)))))
          by false e = old ∙ ap (λ m. nat_eq m 0) (omega (arith, more, ap {B = ℕ} (λ a. cond (a && not (is_bounded K i)) 1 0) e))

      late : (x : ℕ) → i ≤ x → x < length K → marked after x ≡ is_bounded K x
      late x le xh =
          let none : incidence K x i ≡ false = false_from_ne_true (incidence K x i) (λ e. omega (arith, incidence-earlier K c x i h e, le)) in
          is x
          ∙ ap (λ a. not a && cond (nat_eq x i) false (marked marks x)) none
          ∙ ⊎_elim
          (λ (e : x ≡ i). ap (λ a. cond a false (marked marks x)) (eq-eqb x i e) ∙ sym (ap (is_bounded K) e ∙ b))
          (λ (other : x ≢ i). ap (λ a. cond a false (marked marks x)) (nat_eq-apart x i other) ∙ L.late x (omega (arith, le, other)) xh)
          (cases_eq x i)

-- one mark less
pub unmark-more : (xs : List ℕ) (k : ℕ) (old a b : Ids) → k < length xs → ((q : ℕ) → a q ≡ (not (set_of (take k xs) q) && old q))
    → ((q : ℕ) → b q ≡ cond (nat_eq q (slice_index xs k)) false (a q)) → (q : ℕ) → b q ≡ (not (set_of (take (k + 1) xs) q) && old q)
unmark-more xs k old a b h A B q =
    B q
    ∙ ap (λ z. cond (nat_eq q (slice_index xs k)) false z) (A q)
    ∙ turned (nat_eq q (slice_index xs k)) (set_of (take k xs) q) (old q)
    ∙ ap (λ z. not z && old q) (sym (list_any_more (λ t. nat_eq q t) xs k 0 h))
  where
    turned : (x y z : Bool) → cond x false (not y && z) ≡ (not (y || x) && z)
    turned true true z = refl
    turned true false z = refl
    turned false true z = refl
    turned false false z = refl
