-- A list with one more member, and a map that finds the members at their places.
--     next_place      the map finds all places of the longer list
use Rattle.std.proofs.Common.{◌≡◌, ℕ, suc, Bool, true, false, cond, List, [], ◌∷◌, ◌++◌, length, refl, sym, ap, ◌∙◌, arith, Some, None}
use Rattle.std.specs.Prelude.{position, option_map}
use Rattle.std.specs.Cmp.{IsEquivalence}
use Rattle.share_index.specs.Entries.{value_at, IsUpdate}
use Rattle.share_index.specs.Listings.{FindsPlaces}

-- a first place, by the first member
position-cons : {X : Type 0} (p : X → Bool) (x : X) (xs : List X) → position p (x ∷ xs) ≡ cond (p x) (Some 0) (option_map suc (position p xs))
position-cons p x xs = grind arith

-- one more member is found where no other is
position-last : {X : Type 0} (p : X → Bool) (xs : List X) (k : X) → p k ≡ true → position p xs ≡ None → position p (xs ++ k ∷ []) ≡ Some (length xs)
position-last p [] k h none = grind arith
position-last p (x ∷ xs) k h none = grind (arith, position-cons p x xs, position-cons p x (xs ++ k ∷ []), position-last p xs k h)

-- one more member for which nobody asks
position-other : {X : Type 0} (p : X → Bool) (xs : List X) (k : X) → p k ≡ false → position p (xs ++ k ∷ []) ≡ position p xs
position-other p [] k h = grind arith
position-other p (x ∷ xs) k h = position-cons p x (xs ++ k ∷ []) ∙ ap (λ w. cond (p x) (Some 0) (option_map suc w)) (position-other p xs k h) ∙ sym (position-cons p x xs)

pub next_place : {K : Type 0} (same : K → K → Bool) → IsEquivalence same → (old new : List (K × ℕ)) (xs : List K) (k : K) → FindsPlaces same old xs → position (same k) xs ≡ None
    → IsUpdate same old new k (length xs) → FindsPlaces same new (xs ++ k ∷ [])
next_place same laws old new xs k finds fresh update q = update q ∙ split (same k q) refl
  where
    split : (b : Bool) → same k q ≡ b → cond b (Some (length xs)) (value_at same old q) ≡ position (same q) (xs ++ k ∷ [])
    split true e = sym (position-last (same q) xs k (laws.symm q k ∙ e) (ap (λ p. position p xs) (λ i x. sym (laws.congr k q x e) i) ∙ fresh))
    split false e = finds q ∙ sym (position-other (same q) xs k (laws.symm q k ∙ e))
