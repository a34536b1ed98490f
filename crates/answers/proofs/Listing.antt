-- Simplices listed by their ids.
--     push-found, push-none     an id of a simplex, and an id of none
--     listed-more               one id more
--     literal-listed            the members of a set, listed in order
--     essential-listed          each essential simplex is there
use Rattle.std.proofs.Common.{◌≡◌, ℕ, ◌+◌, ◌<◌, ◌≤◌, Bool, true, false, cond, ◌&&◌, List, [], ◌∷◌, ◌++◌, map, length, take, refl, sym, ap, ◌∙◌, arith, append-nil, ltb-true, lt-ltb, le-ltb}
use Rattle.std.specs.Prelude.{nat_eq, nat_lt, slice_index_or}
use Rattle.std.specs.List.{filter, range_with_len}
use Rattle.std.specs.List.Sorted.{IsStrictlyIncreasing}
use Rattle.std.proofs.lemmas.Bool.{false_from_ne_true, true≢false}
use Rattle.std.proofs.lemmas.List.{map-append, take_more}
use Rattle.std.proofs.lemmas.List.Elements.{filter-append}
use Rattle.homology.specs.Sets.{set_of}
use Rattle.homology.specs.Complexes.{Complex, dim, simplex_at}
use Rattle.homology.specs.Order.{in_simplex_order}
use Rattle.homology.specs.Kinds.{ids, is_essential}
use Rattle.homology.proofs.SetLaws.{same_members}
use Rattle.homology.proofs.KindLaws.{set_of-filter, set_of-range, set_of-range_holds}
use Rattle.homology.proofs.ListSetLaws.{Rises-ascending, ascending-Rises, same_ascending}
use Rattle.cohomology.specs.Classes.{essentials}
use Rattle.cohomology.proofs.Searching.{rises-range, filter-rises, ids-rise}
use Rattle.transcript.specs.Answers.{literal}
use Rattle.answers.specs.Literals.{there}

pub push-found : (K : Complex) (id : ℕ) (s : List ℕ) (old : List (List ℕ)) → id < length K → simplex_at K id ≡ s → old ++ s ∷ [] ≡ old ++ map (simplex_at K) (there K (id ∷ []))
push-found K id s old lt is =
    ap (λ t. old ++ t ∷ []) (sym is)
    ∙ ap (λ b. old ++ map (simplex_at K) (cond b (id ∷ []) [])) (sym (lt-ltb id (length K) lt))

pub push-none : (K : Complex) (id : ℕ) (old : List (List ℕ)) → length K ≤ id → old ≡ old ++ map (simplex_at K) (there K (id ∷ []))
push-none K id old le = sym (ap (λ b. old ++ map (simplex_at K) (cond b (id ∷ []) [])) (le-ltb id (length K) le) ∙ append-nil old)

pub listed-more : (K : Complex) (l : List ℕ) (i : ℕ) (old new : List (List ℕ)) → i < length l → old ≡ map (simplex_at K) (there K (take i l))
    → new ≡ old ++ map (simplex_at K) (there K (slice_index_or l i 0 ∷ [])) → new ≡ map (simplex_at K) (there K (take (i + 1) l))
listed-more K l i old new lt so_far more =
    more
    ∙ ap (λ t. t ++ map (simplex_at K) (there K (slice_index_or l i 0 ∷ []))) so_far
    ∙ sym (map-append (simplex_at K) (there K (take i l)) (there K (slice_index_or l i 0 ∷ [])))
    ∙ ap (map (simplex_at K)) (sym (filter-append (λ x. nat_lt x (length K)) (take i l) (slice_index_or l i 0 ∷ [])))
    ∙ ap (λ xs. map (simplex_at K) (there K xs)) (sym (take_more l i 0 lt))

-- the numbers below n, as a set
below-range : (n q : ℕ) → set_of (range_with_len 0 n) q ≡ nat_lt q n
below-range n q = by (nat_lt q n) refl
  where
    by : (b : Bool) → nat_lt q n ≡ b → set_of (range_with_len 0 n) q ≡ b
    by true e = set_of-range_holds 0 n q (omega arith) (omega (arith, ltb-true q n e))
    by false e = false_from_ne_true _ (λ m. true≢false (sym (lt-ltb q n (omega (arith, (set_of-range 0 n q m).1))) ∙ e))

and-swap : (a b : Bool) → (a && b) ≡ (b && a)
and-swap true true = refl
and-swap true false = refl
and-swap false true = refl
and-swap false false = refl

-- an ascending list, as the numbers of its set in order
members-listed : (K : Complex) (l : List ℕ) → IsStrictlyIncreasing l → filter (set_of l) (range_with_len 0 (length K)) ≡ there K l
members-listed K l up =
    same_ascending _ _
    (ascending-Rises 0 _ (filter-rises (set_of l) (range_with_len 0 (length K)) (rises-range 0 (length K))))
    (ascending-Rises 0 _ (filter-rises (λ x. nat_lt x (length K)) l (Rises-ascending l up)))
    (same_members _ _ (λ q.
    set_of-filter (set_of l) (range_with_len 0 (length K)) q
    ∙ ap (λ b. set_of l q && b) (below-range (length K) q)
    ∙ and-swap (set_of l q) (nat_lt q (length K))
    ∙ sym (set_of-filter (λ x. nat_lt x (length K)) l q)))

pub literal-listed : (K : Complex) (l : List ℕ) → IsStrictlyIncreasing l → in_simplex_order (map (simplex_at K) (there K l)) ≡ literal K (set_of l)
unfolding literal
literal-listed K l up = ap (λ m. in_simplex_order (map (simplex_at K) m)) (sym (members-listed K l up))

-- a test that holds of each number that another lets through
filter-kept : (p q : ℕ → Bool) (l : List ℕ) → ((x : ℕ) → set_of l x ≡ true → p x ≡ true) → (up : IsStrictlyIncreasing l) → filter p l ≡ l
filter-kept p q l all up =
    same_ascending _ _ (ascending-Rises 0 _ (filter-rises p l (Rises-ascending l up))) up
    (same_members _ _ (λ x. set_of-filter p l x ∙ at x (set_of l x) refl))
  where
    at : (x : ℕ) (b : Bool) → set_of l x ≡ b → (p x && set_of l x) ≡ set_of l x
    at x true e = ap (λ b. b && set_of l x) (all x e)
    at x false e = ap (λ b. p x && b) e ∙ none (p x) ∙ sym e
      where
        none : (a : Bool) → (a && false) ≡ false
        none true = refl
        none false = refl

pub essential-listed : (K : Complex) (p : ℕ) → there K (essentials K p) ≡ essentials K p
essential-listed K p =
    filter-kept (λ x. nat_lt x (length K)) (is_essential K) (essentials K p) below
    (ascending-Rises 0 _ (filter-rises (is_essential K) (ids K p) (ids-rise K p)))
  where
    right : (a b : Bool) → (a && b) ≡ true → b ≡ true
    right true b e = e
    right false b e = absurd (true≢false (sym e))

    below : (x : ℕ) → set_of (essentials K p) x ≡ true → nat_lt x (length K) ≡ true
    below x m =
        let kept : set_of (ids K p) x ≡ true = right (is_essential K x) _ (sym (set_of-filter (is_essential K) (ids K p) x) ∙ m) in
        let ranged : set_of (range_with_len 0 (length K)) x ≡ true = right (nat_eq (dim K x) p) _ (sym (set_of-filter (λ t. nat_eq (dim K t) p) (range_with_len 0 (length K)) x) ∙ kept) in
        sym (below-range (length K) x) ∙ ranged
