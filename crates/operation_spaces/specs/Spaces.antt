-- Subspaces of words and their bases. A word is an ascending list of numbers below n, and stands for the vector with n entries over
-- two elements that is one at these places; a set of words is the test that tells its members.
--     IsWord n w           w is a word of numbers below n
--     sum n v w            the sum of two words: the numbers that are in exactly one of them
--     IsSubspace n S       S has the empty word, and the sum of any two of its members
--     leads S k            whether some member of S has the greatest number k
--     reduced_to S k       the first member of S with the greatest number k that has no other leading number of S; see the laws
--     basis n S            these, for the leading numbers below n in ascending order
--     dimension n S        how many these are
--     combination n B c    the sum of the words that stand in the list B at the places in the set c
--     greatest w           the greatest number of a word
--     IsBasis n S B        B is a list of members of S that are not empty, whose greatest numbers ascend; no word of B has the greatest number of
--                          another; and each member of S is the sum of the words of B at some places, which are determined by it
--     IsLinear n m f       f takes words of numbers below n to words of numbers below m, and sums to sums
--     kernel_of f w        whether f takes w to the empty word
--     image_of n f w       whether f takes some word of numbers below n to w
-- Source: the reduced echelon form of a subspace, any textbook of linear algebra, with the greatest number of a vector as its leading
-- place.
use Rattle.std.specs.Prelude.{◌≡◌, ◌≢◌, ℕ, ◌-◌, ◌<◌, Bool, true, false, ◌&&◌, not, List, [], map, length, slice_index_or}
use Rattle.std.specs.List.{All, filter, list_any, list_all, range_with_len}
use Rattle.std.specs.List.Sorted.{IsStrictlyIncreasing}
use Rattle.homology.specs.Parity.{odd}
use Rattle.homology.specs.Sets.{Ids, plus, set_of}
use Rattle.homology.specs.Simplices.{same_list}
use Rattle.homology.specs.Kinds.{sublists}
use Rattle.cohomology.specs.Searches.{first}
use Rattle.characteristic_classes.specs.Pairings.{words_to}

pub record IsWord (n : ℕ) (w : List ℕ) : Type 0 where
  pub ascending : IsStrictlyIncreasing w
  pub numbers : All (λ k. k < n) w

abbrev pub sum : ℕ → List ℕ → List ℕ → List ℕ
sum n v w = filter (plus (set_of v) (set_of w)) (range_with_len 0 n)

pub record IsSubspace (n : ℕ) (S : List ℕ → Bool) : Type 0 where
  pub zero : S [] ≡ true
  pub sums : (v w : List ℕ) → IsWord n v → IsWord n w → S v ≡ true → S w ≡ true → S (sum n v w) ≡ true

abbrev pub leads : (List ℕ → Bool) → ℕ → Bool
leads S k = list_any S (words_to k)

abbrev pub is_reduced : (List ℕ → Bool) → ℕ → List ℕ → Bool
is_reduced S k w = list_all (λ j. not (set_of w j && leads S j)) (range_with_len 0 k)

abbrev pub reduced_to : (List ℕ → Bool) → ℕ → List ℕ
reduced_to S k = first (λ w. S w && is_reduced S k w) (words_to k)

abbrev pub basis : ℕ → (List ℕ → Bool) → List (List ℕ)
basis n S = map (reduced_to S) (filter (leads S) (range_with_len 0 n))

abbrev pub dimension : ℕ → (List ℕ → Bool) → ℕ
dimension n S = length (basis n S)

abbrev pub word_at : List (List ℕ) → ℕ → List ℕ
word_at B i = slice_index_or B i []

abbrev pub combination : ℕ → List (List ℕ) → Ids → List ℕ
combination n B c = filter (λ q. odd (length B) (λ i. c i && set_of (word_at B i) q)) (range_with_len 0 n)

abbrev pub greatest : List ℕ → ℕ
greatest w = slice_index_or w (length w - 1) 0

pub record IsBasis (n : ℕ) (S : List ℕ → Bool) (B : List (List ℕ)) : Type 0 where
  pub words : (i : ℕ) → i < length B → IsWord n (word_at B i)
  pub members : (i : ℕ) → i < length B → S (word_at B i) ≡ true
  pub nonzero : (i : ℕ) → i < length B → word_at B i ≢ []
  pub ascending : (i j : ℕ) → i < j → j < length B → greatest (word_at B i) < greatest (word_at B j)
  pub apart : (i j : ℕ) → i < length B → j < length B → i ≢ j → set_of (word_at B i) (greatest (word_at B j)) ≡ false
  pub spans : (w : List ℕ) → IsWord n w → S w ≡ true → (c : Ids) × (w ≡ combination n B c)
  pub independent : (c d : Ids) → combination n B c ≡ combination n B d → (i : ℕ) → i < length B → c i ≡ d i

pub record IsLinear (n m : ℕ) (f : List ℕ → List ℕ) : Type 0 where
  pub words : (w : List ℕ) → IsWord n w → IsWord m (f w)
  pub sums : (v w : List ℕ) → IsWord n v → IsWord n w → f (sum n v w) ≡ sum m (f v) (f w)

abbrev pub kernel_of : (List ℕ → List ℕ) → List ℕ → Bool
kernel_of f w = same_list (f w) []

abbrev pub image_of : ℕ → (List ℕ → List ℕ) → List ℕ → Bool
image_of n f w = list_any (λ v. same_list (f v) w) (sublists (range_with_len 0 n))
