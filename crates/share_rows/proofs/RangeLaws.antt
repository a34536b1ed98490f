-- Ranges of lists: a range of a range, and two that follow each other.
use Rattle.std.proofs.Common.{◌≡◌, ℕ, ◌+◌, ◌-◌, ◌/◌, ◌%◌, ◌<◌, ◌≤◌, inl, inr, List, [], ◌∷◌, ◌++◌, length, get_or, take, drop, slice_range, sym, ap, ◌∙◌, arith}
use Rattle.std.proofs.lemmas.List.{take-append-drop, drop-drop, drop-take, take-take, length-drop, length-take-le, take_all, take_more}
use Rattle.share_rows.specs.Packs.{LeafIs, width}

module _ {X : Type 0} where
  pub length-range : (xs : List X) (a b : ℕ) → a ≤ b → b ≤ length xs → length (slice_range xs a b) ≡ b - a
  length-range xs a b o h = length-take-le (b - a) (drop a xs) (omega (arith, length-drop a xs))

  -- a list that starts with n items and goes on
  take_both : (m n : ℕ) (xs : List X) → take (m + n) xs ≡ take m xs ++ take n (drop m xs)
  take_both m n xs =
      sym (take-append-drop m (take (m + n) xs))
      ∙ ap (λ z. z ++ drop m (take (m + n) xs)) (take-take m (m + n) xs (omega arith))
      ∙ ap (λ z. take m xs ++ z) (drop-take m n xs)

  pub range_join : (xs : List X) (a b c : ℕ) → a ≤ b → b ≤ c → slice_range xs a c ≡ slice_range xs a b ++ slice_range xs b c
  range_join xs a b c o p =
      let parts : c - a ≡ (b - a) + (c - b) = omega arith in
      let there : a + (b - a) ≡ b = omega arith in
      ap (λ n. take n (drop a xs)) parts
      ∙ take_both (b - a) (c - b) (drop a xs)
      ∙ ap (λ z. slice_range xs a b ++ take (c - b) z) (drop-drop (b - a) a xs)
      ∙ ap (λ n. slice_range xs a b ++ take (c - b) (drop n xs)) there

  -- the place of the k-th item in its leaf
  pub at_in_leaf : (xs : List X) (k : ℕ) (leaf : List X) → LeafIs xs (k / width) leaf → k < length xs → k % width < length leaf
  at_in_leaf xs k leaf is h = elim is.full [ inl e ↦ omega arith | inr e ↦ omega arith ]

  -- a range of a range
  pub range_in : (xs : List X) (a s e : ℕ) (leaf : List X) → leaf ≡ slice_range xs a (a + length leaf) → s ≤ e → e ≤ length leaf → slice_range leaf s e ≡ slice_range xs (a + s) (a + e)
  range_in xs a s e leaf is o h =
      let n : ℕ = length leaf in
      let all : (a + n) - a ≡ s + (n - s) = omega arith in
      let wide : (a + e) - (a + s) ≡ e - s = omega arith in
      ap (λ l. take (e - s) (drop s l)) (is ∙ ap (λ m. take m (drop a xs)) all)
      ∙ ap (take (e - s)) (drop-take s (n - s) (drop a xs))
      ∙ take-take (e - s) (n - s) (drop s (drop a xs)) (omega arith)
      ∙ ap (take (e - s)) (drop-drop s a xs)
      ∙ ap (λ m. take m (drop (a + s) xs)) (sym wide)

  -- a range that starts with a run
  pub starts_with_run : (items run : List X) (a c : ℕ) (x : X) → run ≡ slice_range items a (a + length run) → 0 < length run → a + length run ≤ c → x ≡ get_or run 0 x → slice_range items a c ≡ x ∷ (slice_range run 1 (length run) ++ slice_range items (a + length run) c)
  starts_with_run items [] a c x is h o e = absurd (omega arith)
  starts_with_run items (y ∷ ys) a c x is h o e =
      let n : ℕ = length (y ∷ ys) in
      let rest : List X = slice_range items (a + n) c in
      let tail : take (n - 1) ys ≡ ys = take_all (n - 1) ys (omega arith) in
      range_join items a (a + n) c (omega arith) o ∙ ap (λ z. z ++ rest) (sym is) ∙ ap (λ z. z ∷ (ys ++ rest)) (sym e) ∙ ap (λ z. x ∷ (z ++ rest)) (sym tail)

  -- a range that ends with a run
  pub ends_with_run : (items run : List X) (a c : ℕ) (x : X) → run ≡ slice_range items (c - length run) c → 0 < length run → a + length run ≤ c → x ≡ get_or run (length run - 1) x → slice_range items a c ≡ slice_range items a (c - length run) ++ (take (length run - 1) run ++ x ∷ [])
  ends_with_run items run a c x is h o e =
      let n : ℕ = length run in
      let all : take ((n - 1) + 1) run ≡ run = take_all ((n - 1) + 1) run (omega arith) in
      range_join items a (c - n) c (omega arith) (omega arith)
      ∙ ap (λ z. slice_range items a (c - n) ++ z) (sym is ∙ sym all ∙ take_more run (n - 1) x (omega arith) ∙ ap (λ z. take (n - 1) run ++ z ∷ []) (sym e))
