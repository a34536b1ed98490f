-- A map as the list of its entries, in the order in which their keys came in.
--     Contents K                the entries, and whether there is room for a new key that takes no memory
--     most                      how many keys a map has at the most
--     value_at same es q        the value of the key q
--     put same es k v           es with v at k, in its place or else at the end
--     IsUpdate same old new k v       new has v at k, and at every other key what old has
--     count_with same es k      how many keys there are once k is one
--     hashes hash es            the hashes of the keys
--     HasEntry es q r           the entry at the place r.0 has the key q, and the value r.1
--     IsFound same es q r       r.1 is the value of the key q, too
--     HasNone same es i j q     no entry from the place i on up to the place j has the key q
--     IsIndex                   what an index keeps
use Rattle.std.specs.Prelude.{◌≡◌, ℕ, ◌+◌, ◌<◌, ◌≤◌, Bool, false, cond, List, [], ◌∷◌, ◌++◌, length, map, is_some, slice_index_or, Option, Some}
use Rattle.std.specs.List.{slice_get, IsDistinct}
use Rattle.std.specs.Map.{lookup, keys_of, set_value}
use Rattle.share_index.specs.Buckets.{IsFiled}

-- what a map holds
pub record Contents (K : Type 0) : Type 0 where
  pub entries : List (K × ℕ)
  pub room : Bool

-- the most keys of a map
abbrev pub most : ℕ
most = 16777216

module _ {K : Type 0} where
  module _ (same : K → K → Bool) where
    -- the value of the key q, where it has one
    abbrev pub value_at : List (K × ℕ) → K → Option ℕ
    value_at es q = lookup (same q) es

    -- with v at k, in its place where it is there, and else at the end
    abbrev pub put : List (K × ℕ) → K → ℕ → List (K × ℕ)
    put es k v = cond (is_some (value_at es k)) (set_value (same k) es v) (es ++ (k, v) ∷ [])

    -- new has v at k, and at each other key what old has
    abbrev pub IsUpdate : List (K × ℕ) → List (K × ℕ) → K → ℕ → Type 0
    IsUpdate old new k v = (q : K) → value_at new q ≡ cond (same k q) (Some v) (value_at old q)

    -- how many keys there are once k is one
    abbrev pub count_with : List (K × ℕ) → K → ℕ
    count_with es k = length es + cond (is_some (value_at es k)) 0 1

    -- no entry from the place i on up to the place j has the key q
    abbrev pub HasNone : List (K × ℕ) → ℕ → ℕ → K → Type 0
    HasNone es i j q = (k : ℕ) (d : K × ℕ) → i ≤ k → k < j → k < length es → same q (slice_index_or es k d).0 ≡ false

  -- the entry at the place r.0 has the key q, and the value r.1
  abbrev pub HasEntry : List (K × ℕ) → K → ℕ × ℕ → Type 0
  HasEntry es q r = (r.0 < length es) × (slice_get es r.0 ≡ Some (q, r.1))

  -- the same, and r.1 is the value of the key
  pub record IsFound (same : K → K → Bool) (es : List (K × ℕ)) (q : K) (r : ℕ × ℕ) : Type 0 where
    pub entry : HasEntry es q r
    pub value : value_at same es q ≡ Some r.1

  -- the hashes of the keys
  abbrev pub hashes : (K → ℕ) → List (K × ℕ) → List ℕ
  hashes hash es = map (λ e. hash e.0) es

  -- no key is there twice; the entries, but for at most one that waits, are in their buckets
  pub record IsIndex (same : K → K → Bool) (hash : K → ℕ) (es : List (K × ℕ)) (last before : List (Option ℕ)) : Type 0 where
    pub distinct : IsDistinct same (keys_of es)
    pub filed : IsFiled (hashes hash es) last before
    pub waiting : length es ≤ length before + 1
