-- Lists cut into pieces.
--   width         how many items a full piece has
--   joined xss    the pieces one after another
--   IsPacked xss  each piece but the last is full, and none is empty
--   all_leaves top tail    the leaves in the branches of the top, and the last leaf
--   IsTree n top tail      n items in these leaves
--   with_leaf     the top with another q-th leaf
--   LeafIs xs q   the q-th leaf of a tree with the items xs
use Rattle.std.specs.Prelude.{ℕ, ◌≡◌, ◌+◌, ◌*◌, ◌/◌, ◌%◌, ◌<◌, ◌≤◌, ◌⊎◌, List, [], ◌∷◌, ◌++◌, length, slice_index_or, slice_range, slice_set}
use Rattle.share_rows.specs.Tables.{most}

abbrev pub width : ℕ
width = 32

module _ {X : Type 0} where
  abbrev pub joined : List (List X) → List X
  joined [] = []
  joined (xs ∷ xss) = xs ++ joined xss

  pub record IsPacked (xss : List (List X)) : Type 0 where
    pub full : (i : ℕ) → i + 1 < length xss → length (slice_index_or xss i []) ≡ width
    pub some : (i : ℕ) → i < length xss → 0 < length (slice_index_or xss i [])
    pub fits : (i : ℕ) → i < length xss → length (slice_index_or xss i []) ≤ width

module _ {X : Type 0} where
  abbrev pub with_leaf : List (List (List X)) → ℕ → List X → List (List (List X))
  with_leaf top q xs = slice_set top (q / width) (slice_set (slice_index_or top (q / width) []) (q % width) xs)

  abbrev pub all_leaves : List (List (List X)) → List X → List (List X)
  all_leaves top tail = joined top ++ tail ∷ []

  pub record IsTree (n : ℕ) (top : List (List (List X))) (tail : List X) : Type 0 where
    pub branches : IsPacked top
    pub leaves : IsPacked (all_leaves top tail)
    pub count : n ≡ length (joined (all_leaves top tail))
    pub small : n ≤ most

  pub record LeafIs (xs : List X) (q : ℕ) (leaf : List X) : Type 0 where
    pub items : leaf ≡ slice_range xs (q * width) (q * width + length leaf)
    pub full : (length leaf ≡ width) ⊎ (q * width + length leaf ≡ length xs)
    pub fits : length leaf ≤ width
