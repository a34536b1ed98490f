-- The values of a factor.
--     members-within      the listed members of a chain are simplices of the complex
--     value-other         the value at a list with another number of vertices than the degree asks for
use Rattle.std.proofs.Common.{◌≡◌, ℕ, ◌+◌, ◌<◌, false, List, length, sym, subst}
use Rattle.std.specs.List.{All}
use Rattle.std.proofs.lemmas.Bool.{false_from_ne_true}
use Rattle.homology.specs.Sets.{Ids, set_of}
use Rattle.homology.specs.Complexes.{Complex, IsComplex}
use Rattle.homology.specs.Chains.{IsChain}
use Rattle.homology.proofs.ListSetLaws.{set_of-All}
use Rattle.products.specs.Products.{value_at}
use Rattle.products.proofs.CoboundaryLaw.{value_at-length}

pub members-within : (K : Complex) (p : ℕ) (ids xs : List ℕ) → xs ≡ ids → IsChain K p (set_of ids) → All (λ t. t < length K) xs
members-within K p ids xs e C = subst (All (λ t. t < length K)) (sym e) (set_of-All (λ t. t < length K) ids C.there)

pub value-other : (K : Complex) → IsComplex K → (p : ℕ) (a : Ids) → IsChain K p a → (s : List ℕ) → (length s ≡ p + 1 → ⊥) → value_at K a s ≡ false
value-other K ok p a C s other = false_from_ne_true (value_at K a s) (λ e. other (value_at-length K ok p a C s e))
