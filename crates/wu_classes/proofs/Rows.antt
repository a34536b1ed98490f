-- The rows of the pairing, and what their independence says.
--     cocycle-is           what the class solver gives is the canonical cocycle of the class word
--     row-is               a row that is read off f of the cap product is that of the pairing
--     rows-free            where the first rows are independent, no word with their numbers is degenerate
--     rows-degenerate      where one more row is the sum of some of them, these numbers and its own are a degenerate word
--     wu-is                where the rows express the values of the squares, the word that does is the Wu class
use Rattle.std.proofs.Common.{◌≡◌, ℕ, ◌-◌, ◌<◌, ◌≤◌, Bool, true, false, List, [], ◌∷◌, ◌++◌, map, length, Ok, sym, ap, ◌∙◌, arith, ⊎_elim}
use Rattle.std.specs.Prelude.{slice_index, slice_index_or}
use Rattle.std.specs.List.{All, range_with_len}
use Rattle.std.proofs.lemmas.Bool.{cases_lt}
use Rattle.std.proofs.lemmas.List.{get_or_past}
use Rattle.std.proofs.lemmas.List.Elements.{All-push}
use Rattle.std.proofs.lemmas.List.FromFn.{fill_by_all, get_or-map-range_with_len, length-map-range_with_len}
use Rattle.homology.specs.Parity.{xor}
use Rattle.homology.specs.Sets.{Ids, set_of}
use Rattle.homology.specs.ListSums.{odd_over, sum_over}
use Rattle.homology.specs.Complexes.{Complex, IsComplex}
use Rattle.homology.specs.Kinds.{betti, ids}
use Rattle.homology.proofs.ParityLaws.{xor-self}
use Rattle.homology.proofs.ListSumLaws.{odd_over-same, odd_over-none, odd_over-push}
use Rattle.cohomology.specs.Classes.{IsClass, canonical, essentials}
use Rattle.cohomology.specs.Words.{numbered}
use Rattle.products.specs.Caps.{cap}
use Rattle.manifolds.specs.Closed.{closed, top}
use Rattle.class_solver.proofs.Listed.{numbered-all}
use Rattle.characteristic_classes.specs.Pairings.{cocycle, pair, row, pairing, is_degenerate}
use Rattle.characteristic_classes.specs.WuClasses.{wu_class}
use Rattle.characteristic_classes.proofs.PairingLaws.{one-word, cocycle-terms, pair-row_of}
use Rattle.characteristic_classes.proofs.WordLaws.{push-ascends}
use Rattle.characteristic_classes.proofs.DegeneracyLaws.{degenerate-row, row-degenerate}
use Rattle.characteristic_classes.proofs.WuLaws.{square_value, wu_class-is}
use Rattle.at_model.specs.Maps.{IsFOfChain}
use Rattle.elimination.specs.Rows.{entry, entries_at, IsExpression, AreIndependent}
use Rattle.wu_classes.specs.Duals.{IsFree}

module _ (K : Complex) (ok : IsComplex K) (p : ℕ) where
  pub cocycle-is : (w : List ℕ) → IsClass K p w → (s : Ids) → numbered (betti K p) (λ k. set_of (canonical K p (k ∷ []))) w ≡ Ok s → s ≡ cocycle K p w
  cocycle-is w W s e =
      let all : numbered (betti K p) (λ k. set_of (canonical K p (k ∷ []))) w ≡ Ok (sum_over w (λ j. cocycle K p (j ∷ []))) =
      numbered-all (betti K p) (λ k. set_of (canonical K p (k ∷ []))) w W.numbers in
      let same : s ≡ sum_over w (λ j. cocycle K p (j ∷ [])) = cc in
      same ∙ sym (cocycle-terms K ok p w W)

  abbrev width : ℕ
  width = betti K (top K - p)

  pub row-is : (j : ℕ) (r : List Bool) (f : Ids) (essential : List ℕ) → j < betti K p
      → IsFOfChain K (cap K p (cocycle K p (j ∷ [])) (set_of (ids K (top K)))) f → length r ≡ width
      → essential ≡ essentials K (top K - p) → length essential ≡ width
      → ((k : ℕ) → k < length essential → entry r k ≡ f (slice_index essential k)) → r ≡ row K p j
  row-is j r f essential lt F wide is count read =
      fill_by_all (λ k. pair K p (j ∷ []) (k ∷ [])) r width false wide
      (λ k below.
      read k (omega (arith, below, count))
      ∙ ap (λ l. f (slice_index l k)) is
      ∙ sym (pair-row_of K ok p (j ∷ []) (one-word K p j lt) f F k below))

  -- the first i rows
  abbrev pub first_rows : ℕ → List (List Bool)
  first_rows i = map (row K p) (range_with_len 0 i)

  rows-count : (i : ℕ) → length (first_rows i) ≡ i
  rows-count i = length-map-range_with_len (row K p) 0 i

  entries-pair : (i j l : ℕ) → j < i → l < width → entries_at (first_rows i) j l ≡ pair K p (j ∷ []) (l ∷ [])
  entries-pair i j l lt below =
      ap (λ r. entry r l) (get_or-map-range_with_len (row K p) 0 i j j [] lt (omega arith))
      ∙ get_or-map-range_with_len (λ k. pair K p (j ∷ []) (k ∷ [])) 0 width l l false below (omega arith)

  entries-past : (i j l : ℕ) → j < i → width ≤ l → entries_at (first_rows i) j l ≡ false
  entries-past i j l lt past =
      ap (λ r. entry r l) (get_or-map-range_with_len (row K p) 0 i j j [] lt (omega arith))
      ∙ get_or_past (row K p j) l false (omega (arith, past, length-map-range_with_len (λ k. pair K p (j ∷ []) (k ∷ [])) 0 width))

  rows-sum : (i : ℕ) (w : List ℕ) → All (λ j. j < i) w → (l : ℕ) → l < width
      → odd_over w (λ j. pair K p (j ∷ []) (l ∷ [])) ≡ odd_over w (λ j. entries_at (first_rows i) j l)
  rows-sum i w low l below =
      odd_over-same w (λ j. pair K p (j ∷ []) (l ∷ [])) (λ j. entries_at (first_rows i) j l)
      (λ k d lt. sym (entries-pair i (slice_index_or w k d) l (low k d lt) below))

  -- independent rows belong to no degenerate word
  pub rows-free : (i : ℕ) → AreIndependent (first_rows i) → (w : List ℕ) → IsClass K p w → All (λ j. j < i) w → is_degenerate K p w ≡ true → w ≡ []
  rows-free i I w W low D =
      I.none w W.ascending (λ k d lt. omega (arith, low k d lt, rows-count i)) (λ s q. at q s)
    where
      at : (q : ℕ) → odd_over w (λ j. entries_at (first_rows i) j q) ≡ false
      at q = ⊎_elim
          (λ (below : q < width). sym (rows-sum i w low q below) ∙ degenerate-row K ok p w W D q below)
          (λ (past : width ≤ q).
          odd_over-none w (λ j. entries_at (first_rows i) j q) (λ k d lt. entries-past i (slice_index_or w k d) q (low k d lt) past))
          (cases_lt q width)

  pub all-free : AreIndependent (pairing K p) → IsFree K p
  all-free I w W D = rows-free (betti K p) I w W W.numbers D

  -- one more row that is the sum of others
  module _ (i : ℕ) (lt : i < betti K p) (numbers : List ℕ) (X : IsExpression (first_rows i) numbers (row K p i)) where
    low : All (λ j. j < i) numbers
    low = λ k d h. omega (arith, X.within k d h, rows-count i)

    pub rows-word : IsClass K p (numbers ++ i ∷ [])
    rows-word = record {
      ascending = push-ascends numbers i X.ascending low;
      numbers = λ k d h. at k d h;
    }
      where
        at : (k d : ℕ) → k < length (numbers ++ i ∷ []) → slice_index_or (numbers ++ i ∷ []) k d < betti K p
        at k d h = All-push (λ j. j < betti K p) numbers i (λ k d h. omega (arith, low k d h, lt)) lt k d h

    pub rows-degenerate : is_degenerate K p (numbers ++ i ∷ []) ≡ true
    rows-degenerate = row-degenerate K ok p (numbers ++ i ∷ []) rows-word (λ l below.
        odd_over-push numbers i (λ j. pair K p (j ∷ []) (l ∷ []))
        ∙ ap (λ b. xor b (pair K p (i ∷ []) (l ∷ []))) (rows-sum i numbers low l below ∙ ap (λ z. z l) X.sum ∙ own l below)
        ∙ xor-self (pair K p (i ∷ []) (l ∷ [])))
      where
        own : (l : ℕ) → l < width → entry (row K p i) l ≡ pair K p (i ∷ []) (l ∷ [])
        own l below = get_or-map-range_with_len (λ k. pair K p (i ∷ []) (k ∷ [])) 0 width l l false below (omega arith)

  -- rows that express the values of the squares
  module _ (values : List Bool) (numbers : List ℕ) (X : IsExpression (pairing K p) numbers values)
      (is : (l : ℕ) → l < width → entry values l ≡ square_value K p (l ∷ [])) where
    pub wu-word : IsClass K p numbers
    wu-word = record { ascending = X.ascending; numbers = λ k d h. omega (arith, X.within k d h, rows-count (betti K p)) }

    pub wu-is : (n : ℕ) → closed K ≡ Ok n → p ≤ top K → IsFree K p → numbers ≡ wu_class K p
    wu-is n shut le free = sym (wu_class-is K ok n shut p le free numbers wu-word (λ l below.
        rows-sum (betti K p) numbers wu-word.numbers l below ∙ ap (λ z. z l) X.sum ∙ is l below))
