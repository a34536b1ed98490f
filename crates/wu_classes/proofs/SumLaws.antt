-- Sums of f of back faces over simplices of the greatest dimension. K is a complex, p a degree.
--     maps-more              f of one simplex more
--     add-none, add-more     a set is added to no chain, and to one more
--     sums-none, sums-more   the sums over no simplex, and with one more
--     ends-are               f of the two faces of a simplex
--     pair-sums              the sums over all simplices are the pairing
--     rows-pairing           the rows that are read off them are its rows
--     top-values             the values of the classes of the greatest degree on the fundamental cycle
--     row-found, row-missed  a row, with one member more of the chain that it is read off
use Rattle.std.proofs.Common.{get_or-set_other, ◌≡◌, ◌≢◌, ℕ, ◌+◌, ◌-◌, ◌<◌, ◌≤◌, Bool, true, false, ◌&&◌, ◌||◌, nat_eq, List, [], ◌∷◌, length, take, drop, get_or, ◌++◌, Result, Ok, Err, subst, inl, inr, ◌⊎◌, refl, sym, ap, ◌∙◌, arith, ⊎_elim}
use Rattle.std.specs.Prelude.{slice_index, slice_index_or, slice_set}
use Rattle.std.specs.List.Sorted.{IsStrictlyIncreasing, IsBinarySearchResult}
use Rattle.std.specs.Ordering.{nat_cmp}
use Rattle.std.proofs.lemmas.Bool.{cases_eq, cases_lt, true≢false}
use Rattle.std.proofs.lemmas.Grind.{get_or-set_at}
use Rattle.std.proofs.lemmas.List.{get_or_append_left, get_or_push}
use Rattle.std.proofs.lemmas.List.Folds.{list_any_at, list_any_more}
use Rattle.std.proofs.lemmas.List.Sorted.{searched}
use Rattle.std.proofs.lemmas.List.FromFn.{fill_by_all}
use Rattle.homology.specs.Parity.{xor, odd}
use Rattle.homology.specs.Sets.{Ids, plus, set_of, single}
use Rattle.homology.specs.ListSums.{odd_over, sum_over}
use Rattle.homology.specs.Simplices.{same_list}
use Rattle.homology.specs.Complexes.{Complex, IsComplex, simplex_at}
use Rattle.homology.specs.Kinds.{betti, ids}
use Rattle.homology.specs.Contractions.{cycle_of}
use Rattle.homology.proofs.ParityLaws.{and-comm, nat_eq-self, nat_eq-apart, odd-same, xor-and, xor-assoc, xor-false}
use Rattle.homology.proofs.SetLaws.{same_members}
use Rattle.homology.proofs.ListSetLaws.{ascending-le}
use Rattle.homology.proofs.ListSumLaws.{odd_over-same, odd_over-take_more, sum_over-ascending, sum_over-take_more}
use Rattle.factors.specs.Factors.{HasContraction}
use Rattle.factors.proofs.Existence.{contraction-exists}
use Rattle.f2_chains.proofs.Searches.{found-set_of}
use Rattle.cohomology.specs.Classes.{essentials, essential_at}
use Rattle.cohomology.proofs.Canonicals.{canonical-own}
use Rattle.cohomology.proofs.Naming.{betti-essentials}
use Rattle.products.specs.Products.{cup, value_at}
use Rattle.products.proofs.ValueLaws.{value_at-there}
use Rattle.products.proofs.CapLaws.{cup-zero}
use Rattle.manifolds.specs.Closed.{top}
use Rattle.at_model.specs.Maps.{IsF, IsFOfChain}
use Rattle.class_solver.proofs.ClassSums.{own-chain}
use Rattle.characteristic_classes.specs.Pairings.{cocycle, on_top, pair, pairing, row}
use Rattle.characteristic_classes.proofs.TopLaws.{on_top-value}
use Rattle.cohomology_operations.specs.Squares.{square}
use Rattle.cohomology_operations.proofs.SquareLaws.{square-zero}
use Rattle.elimination.specs.Rows.{entry, row_at}
use Rattle.wu_classes.specs.Sums.{AreEnds, AreSums, meets, where_odd}

-- f of one simplex more
pub maps-more : (K : Complex) (old new : List (List ℕ)) (f : List ℕ) (t : ℕ) → new ≡ old ++ f ∷ [] → length old ≡ t
    → ((s : ℕ) → s < t → IsF K s (set_of (slice_index_or old s []))) → IsF K t (set_of f)
    → (s : ℕ) → s < t + 1 → IsF K s (set_of (slice_index_or new s []))
maps-more K old new f t is count each own s lt = subst (λ (l : List (List ℕ)). IsF K s (set_of (slice_index_or l s []))) (sym is) (⊎_elim
    (λ (before : s < t).
    subst (λ (c : List ℕ). IsF K s (set_of c)) (sym (get_or_append_left old (f ∷ []) [] s (omega (arith, before, count)))) (each s before))
    (λ (le : t ≤ s).
    let same : s ≡ t = omega (arith, le, lt) in
    subst (λ (c : List ℕ). IsF K s (set_of c)) (sym (get_or_push old f [] s (count ∙ sym same)))
    (subst (λ (m : ℕ). IsF K m (set_of f)) (sym same) own))
    (cases_lt s t))

-- what the chains have, after each addition
abbrev Has : List (List ℕ) → List (List ℕ) → List ℕ → Ids → Type 0
Has old new xs a = (h : ℕ) → set_of (slice_index_or new h []) ≡ plus (set_of (slice_index_or old h [])) (where_odd xs h a)

pub add-none : (sums : List (List ℕ)) (xs : List ℕ) (a : Ids) → Has sums sums (take 0 xs) a
add-none sums xs a h = same_members _ _ (λ q. sym (xor-false (set_of (slice_index_or sums h []) q)))

-- the sets with one number more
where-more : (xs : List ℕ) (i h : ℕ) (a : Ids) (q : ℕ) → i < length xs → where_odd (take (i + 1) xs) h a q ≡ xor (where_odd (take i xs) h a q) (nat_eq h (slice_index xs i) && a q)
where-more xs i h a q lt =
    ap (λ b. b && a q) (odd_over-take_more xs i (λ x. nat_eq h x) lt)
    ∙ xor-and (odd_over (take i xs) (λ x. nat_eq h x)) (nat_eq h (slice_index xs i)) (a q)

pub add-more : (old now : List (List ℕ)) (xs : List ℕ) (i x : ℕ) (c : List ℕ) (a : Ids) → i < length xs → x ≡ slice_index xs i → x < length now
    → set_of c ≡ plus (set_of (slice_index_or now x [])) a → Has old now (take i xs) a → Has old (slice_set now x c) (take (i + 1) xs) a
add-more old now xs i x c a lt here within added so_far h = same_members _ _ (λ q. at q (cases_eq h x))
  where
    A : ℕ → Bool
    A q = set_of (slice_index_or old h []) q

    W : ℕ → Bool
    W q = where_odd (take i xs) h a q

    more : (q : ℕ) (b : Bool) → nat_eq h (slice_index xs i) ≡ b → xor (A q) (where_odd (take (i + 1) xs) h a q) ≡ xor (xor (A q) (W q)) (b && a q)
    more q b e =
        ap (xor (A q)) (where-more xs i h a q lt ∙ ap (λ z. xor (W q) (z && a q)) e) ∙ sym (xor-assoc (A q) (W q) (b && a q))

    at : (q : ℕ) → (h ≡ x) ⊎ (h ≢ x) → set_of (slice_index_or (slice_set now x c) h []) q ≡ xor (A q) (where_odd (take (i + 1) xs) h a q)
    at q (inl same) =
        ap (λ l. set_of l q) (get_or-set_at now x h c [] same within)
        ∙ ap (λ z. z q) added
        ∙ ap (λ y. xor (set_of (slice_index_or now y []) q) (a q)) (sym same)
        ∙ ap (λ z. xor (z q) (a q)) (so_far h)
        ∙ sym (more q true (ap (nat_eq h) (sym here ∙ sym same) ∙ nat_eq-self h))
    at q (inr other) =
        ap (λ l. set_of l q) (get_or-set_other now x h c [] other)
        ∙ ap (λ z. z q) (so_far h)
        ∙ sym (xor-false (xor (A q) (W q)))
        ∙ sym (more q false (nat_eq-apart h (slice_index xs i) (λ e. other (e ∙ sym here))))

pub sums-none : (K : Complex) (p : ℕ) (xs : List ℕ) (sums : List (List ℕ)) → ((h : ℕ) → slice_index_or sums h [] ≡ []) → AreSums K p (take 0 xs) sums
sums-none K p xs sums none f g phi C h = ap set_of (none h)

pub sums-more : (K : Complex) (p i x : ℕ) (xs : List ℕ) (old new : List (List ℕ)) (c b ids more : List ℕ) → i < length xs → x ≡ slice_index xs i → AreEnds K p x c b
    → IsStrictlyIncreasing c → IsStrictlyIncreasing b → ids ≡ c → more ≡ b
    → Has old new ids (sum_over more single) → AreSums K p (take i xs) old → AreSums K p (take (i + 1) xs) new
sums-more K p i x xs old new c b ids more lt here ends up_c up_b is_c is_b has so_far f g phi C h =
    has h
    ∙ (λ j. plus (so_far f g phi C h j) (added j))
    ∙ ap (λ y. plus (sum_over (take i xs) (λ x q. meets K f p h q x)) (λ q. meets K f p h q y)) here
    ∙ sym (sum_over-take_more xs i (λ x q. meets K f p h q x) lt)
  where
    front : odd_over ids (λ x. nat_eq h x) ≡ set_of c h
    front = ap (λ l. odd_over l (λ x. nat_eq h x)) is_c ∙ ap (λ z. z h) (sum_over-ascending c up_c)

    back : sum_over more single ≡ set_of b
    back = ap (λ l. sum_over l single) is_b ∙ sum_over-ascending b up_b

    added : where_odd ids h (sum_over more single) ≡ (λ q. meets K f p h q x)
    added = same_members _ _ (λ q. (λ j. front j && back j q) ∙ ends f g phi C h q)

pub ends-are : (K : Complex) → IsComplex K → (p x front back : ℕ) (c b : List ℕ) → front < length K → back < length K
    → simplex_at K front ≡ take (p + 1) (simplex_at K x) → simplex_at K back ≡ drop p (simplex_at K x)
    → IsF K front (set_of c) → IsF K back (set_of b) → AreEnds K p x c b
ends-are K ok p x front back c b lf lb is_front is_back F B f g phi C h q = λ j. left j && right j
  where
    left : set_of c h ≡ value_at K (λ t. f t h) (take (p + 1) (simplex_at K x))
    left =
        ap (λ z. z h) (sym (F f g phi C))
        ∙ sym (value_at-there K ok (λ t. f t h) front lf)
        ∙ ap (value_at K (λ t. f t h)) is_front

    right : set_of b q ≡ value_at K (λ t. f t q) (drop p (simplex_at K x))
    right =
        ap (λ z. z q) (sym (B f g phi C))
        ∙ sym (value_at-there K ok (λ t. f t q) back lb)
        ∙ ap (value_at K (λ t. f t q)) is_back

-- a cochain is told by its values at the simplices
value_at-same : (K : Complex) (a b : Ids) → ((t : ℕ) → t < length K → a t ≡ b t) → (s : List ℕ) → value_at K a s ≡ value_at K b s
unfolding value_at
value_at-same K a b same s =
    odd-same (length K) (λ x. a x && same_list s (simplex_at K x)) (λ x. b x && same_list s (simplex_at K x))
    (λ x lt. ap (λ z. z && same_list s (simplex_at K x)) (same x lt))

module _ (K : Complex) (ok : IsComplex K) (p : ℕ) (sums : List (List ℕ)) (S : AreSums K p (ids K (top K)) sums) where
  pub pair-sums : (j k : ℕ) → j < betti K p → k < betti K (top K - p)
      → pair K p (j ∷ []) (k ∷ []) ≡ set_of (slice_index_or sums (essential_at K p j) []) (essential_at K (top K - p) k)
  pair-sums j k lj lk = at (contraction-exists K ok)
    where
      h : ℕ
      h = essential_at K p j

      e : ℕ
      e = essential_at K (top K - p) k

      a : Ids
      a = cocycle K p (j ∷ [])

      b : Ids
      b = cocycle K (top K - p) (k ∷ [])

      at : HasContraction K → pair K p (j ∷ []) (k ∷ []) ≡ set_of (slice_index_or sums h []) e
      at H =
          odd_over-same (ids K (top K)) (cup K 0 a b) (λ x. meets K H.f p h e x)
          (λ i d lt. one (slice_index_or (ids K (top K)) i d))
          ∙ sym (ap (λ z. z e) (S H.f (cycle_of K H.phi) H.phi H.is h))
        where
          one : (x : ℕ) → cup K 0 a b x ≡ meets K H.f p h e x
          one x =
              cup-zero K ok p a (own-chain K ok p j lj) b x
              ∙ (λ i.
              value_at-same K a (λ t. H.f t h) (canonical-own K ok H.f (cycle_of K H.phi) H.phi H.is p j lj) (take (p + 1) (simplex_at K x)) i
              && value_at-same K b (λ t. H.f t e) (canonical-own K ok H.f (cycle_of K H.phi) H.phi H.is (top K - p) k lk) (drop p (simplex_at K x)) i)

  pub rows-pairing : (rows : List (List Bool)) (first second : List ℕ) → first ≡ essentials K p → second ≡ essentials K (top K - p)
      → length rows ≡ length first → ((j : ℕ) → j < length first → length (row_at rows j) ≡ length second)
      → ((j : ℕ) → j < length first → (k : ℕ) → k < length second
      → entry (row_at rows j) k ≡ set_of (slice_index_or sums (slice_index first j) []) (slice_index second k))
      → rows ≡ pairing K p
  rows-pairing rows first second is_first is_second count widths entries =
      fill_by_all (row K p) rows (betti K p) [] (count ∙ count_first) (λ j lj.
      fill_by_all (λ k. pair K p (j ∷ []) (k ∷ [])) (row_at rows j) (betti K (top K - p)) false
      (widths j (omega (arith, lj, count_first)) ∙ count_second)
      (λ k lk.
      entries j (omega (arith, lj, count_first)) k (omega (arith, lk, count_second))
      ∙ (λ i. set_of (slice_index_or sums (slice_index (is_first i) j) []) (slice_index (is_second i) k))
      ∙ sym (pair-sums j k lj lk)))
    where
      count_first : length first ≡ betti K p
      count_first = ap length is_first ∙ betti-essentials K p

      count_second : length second ≡ betti K (top K - p)
      count_second = ap length is_second ∙ betti-essentials K (top K - p)

-- rows that are read off a chain, member by member
or-swap : (a b : Bool) → (a || b) ≡ (b || a)
or-swap true true = refl
or-swap true false = refl
or-swap false true = refl
or-swap false false = refl

-- where a number stands in an ascending list
only-place : (xs : List ℕ) (place x k : ℕ) → IsStrictlyIncreasing xs → place < length xs → get_or xs place 0 ≡ x → k < length xs → get_or xs k 0 ≡ x → k ≡ place
only-place xs place x k up lp is lk e = ⊎_elim
    (λ (lt : k < place). absurd (omega (arith, up k (omega (arith, lt, lp)), ascending-le xs up (k + 1) place (omega (arith, lt)) lp, is, e)))
    (λ (le : place ≤ k). ⊎_elim
    (λ (same : k ≡ place). same)
    (λ (other : k ≡ place → ⊥).
    absurd (omega (
      arith,
      up place (omega (arith, le, other, lk)),
      ascending-le xs up (place + 1) k (omega (arith, le, other)) lk,
      is,
      e,
    )))
    (cases_eq k place))
    (cases_lt k place)

place-told : (xs : List ℕ) (place x k : ℕ) → IsStrictlyIncreasing xs → place < length xs → get_or xs place 0 ≡ x → k < length xs
    → nat_eq k place ≡ nat_eq (slice_index xs k) x
place-told xs place x k up lp is lk = ⊎_elim
    (λ (e : k ≡ place).
    ap (λ m. nat_eq m place) e ∙ nat_eq-self place ∙ sym (ap (λ m. nat_eq m x) (ap (λ m. get_or xs m 0) e ∙ is) ∙ nat_eq-self x))
    (λ (other : k ≡ place → ⊥).
    nat_eq-apart k place other ∙ sym (nat_eq-apart (slice_index xs k) x (λ e. other (only-place xs place x k up lp is lk e))))
    (cases_eq k place)

module _ (xs ids : List ℕ) (i x : ℕ) (r : Result ℕ ℕ) (old : List Bool) (up : IsStrictlyIncreasing xs) (lt : i < length ids) (here : x ≡ slice_index ids i)
    (search : IsBinarySearchResult (λ y. nat_cmp y x) xs r)
    (so_far : (k : ℕ) → k < length xs → entry old k ≡ set_of (take i ids) (slice_index xs k)) where
  more : (k : ℕ) → set_of (take (i + 1) ids) (slice_index xs k) ≡ (nat_eq (slice_index xs k) x || set_of (take i ids) (slice_index xs k))
  more k =
      list_any_more (λ t. nat_eq (slice_index xs k) t) ids i 0 lt
      ∙ ap (λ y. set_of (take i ids) (slice_index xs k) || nat_eq (slice_index xs k) y) (sym here)
      ∙ or-swap (set_of (take i ids) (slice_index xs k)) (nat_eq (slice_index xs k) x)

  pub row-found : (place : ℕ) (new : List Bool) → r ≡ Ok place → ((q : ℕ) → entry new q ≡ (nat_eq q place || entry old q))
      → (k : ℕ) → k < length xs → entry new k ≡ set_of (take (i + 1) ids) (slice_index xs k)
  row-found place new found is k below =
      let at = searched xs x (Ok place) (subst (IsBinarySearchResult (λ y. nat_cmp y x) xs) found search) (ascending-le xs up) in
      is k ∙ (λ j. place-told xs place x k up at.0 at.1 below j || so_far k below j) ∙ sym (more k)

  pub row-missed : (place : ℕ) → r ≡ Err place → (k : ℕ) → k < length xs → entry old k ≡ set_of (take (i + 1) ids) (slice_index xs k)
  row-missed place missed k below =
      let none : false ≡ set_of xs x = found-set_of xs xs x (Err place) refl up (subst (IsBinarySearchResult (λ y. nat_cmp y x) xs) missed search) in
      so_far k below
      ∙ sym
      (more k
      ∙ ap (λ b. b || set_of (take i ids) (slice_index xs k))
      (nat_eq-apart (slice_index xs k) x (λ e. true≢false (sym (list_any_at (λ t. nat_eq x t) xs k 0 below (ap (nat_eq x) e ∙ nat_eq-self x)) ∙ sym none))))

-- the classes of the greatest degree, and their Sq^0
pub top-values : (K : Complex) → IsComplex K → (n : ℕ) → top K ≡ n → (w f : Ids) → w ≡ set_of (ids K n) → IsFOfChain K w f → (l : ℕ) → l < betti K n
    → f (essential_at K n l) ≡ on_top K (square K 0 n (cocycle K n (l ∷ [])))
top-values K ok n top_is w f is F l lt = at (contraction-exists K ok) ∙ ap (on_top K) (sym (square-zero K ok n a (own-chain K ok n l lt)))
  where
    e : ℕ
    e = essential_at K n l

    a : Ids
    a = cocycle K n (l ∷ [])

    at : HasContraction K → f e ≡ on_top K a
    at H =
        ap (λ z. z e) (sym (F H.f (cycle_of K H.phi) H.phi H.is))
        ∙ odd-same (length K) (λ t. w t && H.f t e) (λ t. a t && set_of (ids K n) t)
        (λ t below.
        (λ i. is i t && sym (canonical-own K ok H.f (cycle_of K H.phi) H.phi H.is n l lt t below) i) ∙ and-comm (set_of (ids K n) t) (a t))
        ∙ ap (λ m. odd (length K) (λ t. a t && set_of (ids K m) t)) (sym top_is)
        ∙ sym (on_top-value K a)
