-- The cofaces of the members of a cochain, of every dimension.
--     is_kept K behind u c        where behind is set, whether u is the face of c without its last vertex
--     kept_cofaces K behind u     the cofaces c of u that are kept
--     IsPart behind p s           p is s without some of its vertices; where behind is set, without some of its last ones
--     IsAbove K behind a n xs     the xs are simplices of K with n vertices, ascending; among them are all of which a simplex at which
--                                 the cochain a is one is such a part
use Rattle.std.specs.Prelude.{◌≡◌, ℕ, ◌-◌, ◌<◌, Bool, true, false, ◌||◌, not, List, length, take}
use Rattle.std.specs.List.{filter, remove}
use Rattle.std.specs.List.Sorted.{IsStrictlyIncreasing}
use Rattle.homology.specs.Sets.{Ids, set_of}
use Rattle.homology.specs.Simplices.{same_list}
use Rattle.homology.specs.Complexes.{Complex, simplex_at}
use Rattle.homology.specs.Growth.{choices, is_there}
use Rattle.complex_store.specs.Cofaces.{cofaces}
use Rattle.products.specs.Products.{value_at}

abbrev pub is_kept : Complex → Bool → ℕ → ℕ → Bool
is_kept K behind u c = not behind || same_list (simplex_at K u) (remove (simplex_at K c) (length (simplex_at K c) - 1))

abbrev pub kept_cofaces : Complex → Bool → ℕ → List ℕ
kept_cofaces K behind u = filter (is_kept K behind u) (cofaces K u)

abbrev pub IsPart : Bool → List ℕ → List ℕ → Type 0
IsPart true p s = p ≡ take (length p) s
IsPart false p s = is_there (choices (length p) s) p ≡ true

pub record IsAbove (K : Complex) (behind : Bool) (a : Ids) (n : ℕ) (xs : List ℕ) : Type 0 where
  pub ascending : IsStrictlyIncreasing xs
  pub within : (x : ℕ) → set_of xs x ≡ true → x < length K
  pub wide : (x : ℕ) → set_of xs x ≡ true → length (simplex_at K x) ≡ n
  pub all : (x : ℕ) (p : List ℕ) → x < length K → length (simplex_at K x) ≡ n → value_at K a p ≡ true → IsPart behind p (simplex_at K x)
      → set_of xs x ≡ true
