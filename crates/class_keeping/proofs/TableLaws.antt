-- Tables of chains by the ids of simplices. K is a complex, p a degree.
--     put-none, put-more     a simplex is added to no chain, and to one more
--     table-none, table-more the table of no simplex, and with one more
--     ids-up                 the list of the simplices of a dimension ascends
--     table-own              of an essential simplex the whole table has the canonical cocycle of its class
--     listed-own             the same of listed essential simplices
--     rows-more              one more cocycle
use Rattle.std.proofs.Common.{get_or-set_other, ◌≡◌, ◌≢◌, ℕ, zero, suc, ◌+◌, ◌<◌, ◌≤◌, Bool, true, false, ◌&&◌, nat_eq, List, [], ◌∷◌, ◌++◌, length, take, get_or, Option, Some, inl, inr, ◌⊎◌, refl, sym, ap, ◌∙◌, arith, eqb-true}
use Rattle.std.specs.Prelude.{slice_index, slice_index_or, slice_set}
use Rattle.std.specs.List.Sorted.{IsStrictlyIncreasing}
use Rattle.std.proofs.lemmas.Bool.{cases_eq, cases_lt, false_from_ne_true}
use Rattle.std.proofs.lemmas.Grind.{get_or-set_at}
use Rattle.std.proofs.lemmas.List.{take_all}
use Rattle.homology.specs.Parity.{xor}
use Rattle.homology.specs.Sets.{Ids, plus, set_of, single}
use Rattle.homology.specs.ListSums.{odd_over, sum_over}
use Rattle.homology.specs.Complexes.{Complex, IsComplex}
use Rattle.homology.specs.Chains.{IsChain}
use Rattle.homology.specs.Kinds.{betti, ids}
use Rattle.homology.specs.Contractions.{cycle_of}
use Rattle.homology.proofs.ParityLaws.{and-comm, nat_eq-self, nat_eq-apart, xor-false}
use Rattle.homology.proofs.SetLaws.{same_members}
use Rattle.homology.proofs.KindLaws.{set_of-ids, set_of-ids_holds}
use Rattle.homology.proofs.ListSetLaws.{ascending-Rises}
use Rattle.homology.proofs.ListSumLaws.{odd_over-same, odd_over-take_more, sum_over-ascending, sum_over-take_more, sum_over-when}
use Rattle.factors.specs.Factors.{HasContraction}
use Rattle.factors.proofs.Existence.{contraction-exists}
use Rattle.cohomology.specs.Classes.{essentials, essential_at}
use Rattle.cohomology.proofs.Naming.{betti-essentials}
use Rattle.cohomology.proofs.Searching.{ids-rise}
use Rattle.cohomology.proofs.Canonicals.{canonical-own}
use Rattle.at_model.specs.Maps.{IsF}
use Rattle.class_cache.specs.Kept.{AreRows, own}
use Rattle.class_keeping.specs.Tables.{IsTable, where_odd}
use Rattle.class_solver.proofs.ClassSums.{own-chain}

-- what a table has, after each change
abbrev Has : List (List ℕ) → List (List ℕ) → List ℕ → ℕ → Type 0
Has old new xs t = (h : ℕ) → set_of (slice_index_or new h []) ≡ plus (set_of (slice_index_or old h [])) (where_odd xs h t)

pub put-none : (table : List (List ℕ)) (xs : List ℕ) (t : ℕ) → Has table table (take 0 xs) t
put-none table xs t h = same_members _ _ (λ q. sym (xor-false (set_of (slice_index_or table h []) q)))

and-xor : (a b c : Bool) → (xor a b && c) ≡ xor (a && c) (b && c)
and-xor true true true = refl
and-xor true true false = refl
and-xor true false true = refl
and-xor true false false = refl
and-xor false b c = refl

xor-assoc : (a b c : Bool) → xor (xor a b) c ≡ xor a (xor b c)
xor-assoc true true true = refl
xor-assoc true true false = refl
xor-assoc true false true = refl
xor-assoc true false false = refl
xor-assoc false b c = refl

-- the sets with one number more
where-more : (xs : List ℕ) (i h t : ℕ) (q : ℕ) → i < length xs → where_odd (take (i + 1) xs) h t q ≡ xor (where_odd (take i xs) h t q) (nat_eq h (slice_index xs i) && single t q)
where-more xs i h t q lt =
    ap (λ b. b && single t q) (odd_over-take_more xs i (λ x. nat_eq h x) lt)
    ∙ and-xor (odd_over (take i xs) (λ x. nat_eq h x)) (nat_eq h (slice_index xs i)) (single t q)

pub put-more : (old now : List (List ℕ)) (xs : List ℕ) (i t x : ℕ) (c : List ℕ) → i < length xs → x ≡ slice_index xs i → x < length now
    → set_of c ≡ plus (set_of (slice_index_or now x [])) (single t) → Has old now (take i xs) t → Has old (slice_set now x c) (take (i + 1) xs) t
put-more old now xs i t x c lt here within toggled so_far h = same_members _ _ (λ q. at q (cases_eq h x))
  where
    A : ℕ → Bool
    A q = set_of (slice_index_or old h []) q

    W : ℕ → Bool
    W q = where_odd (take i xs) h t q

    more : (q : ℕ) (b : Bool) → nat_eq h (slice_index xs i) ≡ b → xor (A q) (where_odd (take (i + 1) xs) h t q) ≡ xor (xor (A q) (W q)) (b && single t q)
    more q b e =
        ap (xor (A q)) (where-more xs i h t q lt ∙ ap (λ z. xor (W q) (z && single t q)) e) ∙ sym (xor-assoc (A q) (W q) (b && single t q))

    at : (q : ℕ) → (h ≡ x) ⊎ (h ≢ x) → set_of (slice_index_or (slice_set now x c) h []) q ≡ xor (A q) (where_odd (take (i + 1) xs) h t q)
    at q (inl same) =
        ap (λ l. set_of l q) (get_or-set_at now x h c [] same within)
        ∙ ap (λ z. z q) toggled
        ∙ ap (λ y. xor (set_of (slice_index_or now y []) q) (single t q)) (sym same)
        ∙ ap (λ z. xor (z q) (single t q)) (so_far h)
        ∙ sym (more q true (ap (nat_eq h) (sym here ∙ sym same) ∙ nat_eq-self h))
    at q (inr other) =
        ap (λ l. set_of l q) (get_or-set_other now x h c [] other)
        ∙ ap (λ z. z q) (so_far h)
        ∙ sym (xor-false (xor (A q) (W q)))
        ∙ sym (more q false (nat_eq-apart h (slice_index xs i) (λ e. other (e ∙ sym here))))

pub table-none : (K : Complex) (p : ℕ) (table : List (List ℕ)) → ((h : ℕ) → slice_index_or table h [] ≡ []) → IsTable K p 0 table
table-none K p table none f g phi C h = ap set_of (none h)

pub table-more : (K : Complex) (p i t : ℕ) (old new : List (List ℕ)) (c xs : List ℕ) → i < length (ids K p) → t ≡ slice_index (ids K p) i → IsF K t (set_of c) → IsStrictlyIncreasing c → xs ≡ c
    → Has old new xs t → IsTable K p i old → IsTable K p (i + 1) new
table-more K p i t old new c xs lt here F up same has so_far f g phi C h =
    has h
    ∙ (λ j. plus (so_far f g phi C h j) (added j))
    ∙ ap (λ x. plus (sum_over (take i (ids K p)) (λ t q. f t h && single t q)) (λ q. f x h && single x q)) here
    ∙ sym (sum_over-take_more (ids K p) i (λ t q. f t h && single t q) lt)
  where
    added : where_odd xs h t ≡ (λ q. f t h && single t q)
    added =
        ap (λ l. where_odd l h t) same ∙ ap (λ b. λ q. b && single t q) (ap (λ z. z h) (sum_over-ascending c up ∙ sym (F f g phi C)))

-- the list of the simplices of a dimension ascends
pub ids-up : (K : Complex) (p : ℕ) → IsStrictlyIncreasing (ids K p)
ids-up K p = ascending-Rises 0 (ids K p) (ids-rise K p)

-- a simplex that is there
there-once : (K : Complex) (p : ℕ) (a : Ids) (up : IsStrictlyIncreasing (ids K p)) (q : ℕ) → sum_over (ids K p) (λ t r. a t && single t r) q ≡ (set_of (ids K p) q && a q)
there-once K p a up q =
    odd_over-same (ids K p) (λ t. a t && nat_eq q t) (λ t. nat_eq q t && a q) (λ k d lt. swapped (get_or (ids K p) k d) (nat_eq q (get_or (ids K p) k d)) refl)
    ∙ ap (λ z. z q) (sum_over-when (ids K p) (λ t. nat_eq q t) (λ _. a q))
    ∙ ap (λ b. b && a q) (ap (λ z. z q) (sum_over-ascending (ids K p) up))
  where
    swapped : (t : ℕ) (b : Bool) → nat_eq q t ≡ b → (a t && nat_eq q t) ≡ (nat_eq q t && a q)
    swapped t true e =
        ap (λ b. a t && b) e ∙ and-comm (a t) true ∙ ap a (sym (eqb-true q t e)) ∙ sym (ap (λ b. b && a q) e)
    swapped t false e = ap (λ b. a t && b) e ∙ and-comm (a t) false ∙ sym (ap (λ b. b && a q) e)

pub table-own : (K : Complex) → IsComplex K → (p k : ℕ) (table : List (List ℕ)) → k < betti K p → IsStrictlyIncreasing (ids K p) → IsTable K p (length (ids K p)) table
    → set_of (slice_index_or table (essential_at K p k) []) ≡ own K p k
table-own K ok p k table lt up T = at (contraction-exists K ok)
  where
    h : ℕ
    h = essential_at K p k

    at : HasContraction K → set_of (slice_index_or table h []) ≡ own K p k
    at H =
        T H.f (cycle_of K H.phi) H.phi H.is h
        ∙ ap (λ l. sum_over l (λ t q. H.f t h && single t q)) (take_all (length (ids K p)) (ids K p) (omega arith))
        ∙ same_members _ (own K p k) (λ q. there-once K p (λ t. H.f t h) up q ∙ value q (cases_lt q (length K)))
      where
        C : IsChain K p (own K p k)
        C = own-chain K ok p k lt

        is : (q : ℕ) → q < length K → own K p k q ≡ H.f q h
        is q below = canonical-own K ok H.f (cycle_of K H.phi) H.phi H.is p k lt q below

        value : (q : ℕ) → (q < length K) ⊎ (length K ≤ q) → (set_of (ids K p) q && H.f q h) ≡ own K p k q
        value q (inl below) = by (own K p k q) refl
          where
            by : (b : Bool) → own K p k q ≡ b → (set_of (ids K p) q && H.f q h) ≡ own K p k q
            by true e =
                (λ i. set_of-ids_holds K p q (C.there q e) (C.degree q e) i && (sym (is q below) ∙ e) i) ∙ sym e
            by false e = ap (λ b. set_of (ids K p) q && b) (sym (is q below) ∙ e) ∙ and-comm (set_of (ids K p) q) false ∙ sym e
        value q (inr past) =
            ap (λ b. b && H.f q h) (false_from_ne_true (set_of (ids K p) q) (λ m. omega (arith, past, (set_of-ids K p q m).0)))
            ∙ sym (false_from_ne_true (own K p k q) (λ m. omega (arith, past, C.there q m)))

pub listed-own : (K : Complex) → IsComplex K → (p : ℕ) (xs : List ℕ) (table shown : List (List ℕ)) → xs ≡ essentials K p → IsStrictlyIncreasing (ids K p) → shown ≡ table
    → IsTable K p (length (ids K p)) table → (j : ℕ) → j < length xs → set_of (slice_index_or shown (slice_index xs j) []) ≡ own K p j
listed-own K ok p xs table shown is up same T j lt =
    (λ i. set_of (slice_index_or (same i) (slice_index (is i) j) []))
    ∙ table-own K ok p j table (omega (arith, lt, ap length is, betti-essentials K p)) up T

pub rows-more : (each : ℕ → Ids) (rows : List (Option (List ℕ))) (c : List ℕ) → set_of c ≡ each (length rows) → AreRows each rows → AreRows each (rows ++ Some c ∷ [])
rows-more each [] c is R zero = is
rows-more each [] c is R (suc j) = tt
rows-more each (r ∷ rows) c is R zero = R zero
rows-more each (r ∷ rows) c is R (suc j) = rows-more (λ i. each (suc i)) rows c is (λ i. R (suc i)) j
