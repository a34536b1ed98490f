-- Identities of sums modulo 2, proved by their truth tables.
--     Table n          the functions of n values
--     Same n f g       two of them agree at all values
--     by_table         they do, where the test of all values finds them equal
use Rattle.std.proofs.Common.{◌≡◌, ℕ, zero, suc, Bool, true, false, ◌&&◌, not, refl, sym}
use Rattle.std.proofs.lemmas.Bool.{true≢false, and_parts}
use Rattle.homology.specs.Parity.{xor}

abbrev pub Table : ℕ → Type 0
Table zero = Bool
Table (suc n) = Bool → Table n

abbrev pub Same : (n : ℕ) → Table n → Table n → Type 0
Same zero a b = a ≡ b
Same (suc n) f g = (b : Bool) → Same n (f b) (g b)

abbrev pub agree : (n : ℕ) → Table n → Table n → Bool
agree zero a b = not (xor a b)
agree (suc n) f g = agree n (f true) (g true) && agree n (f false) (g false)

same_value : (a b : Bool) → not (xor a b) ≡ true → a ≡ b
same_value true true e = refl
same_value true false e = absurd (true≢false (sym e))
same_value false true e = absurd (true≢false (sym e))
same_value false false e = refl

pub by_table : (n : ℕ) (f g : Table n) → agree n f g ≡ true → Same n f g
by_table zero f g e = same_value f g e
by_table (suc n) f g e = λ b. elim b as (λ v. Same n (f v) (g v)) [
  | true ↦ by_table n (f true) (g true) (and_parts (agree n (f true) (g true)) (agree n (f false) (g false)) e).0
  | false ↦ by_table n (f false) (g false) (and_parts (agree n (f true) (g true)) (agree n (f false) (g false)) e).1
]
