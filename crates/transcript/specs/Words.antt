-- What the words of a question stand for on a complex. A word is settled whole, and the words of a question from the left.
--     cochain_of K w     the degree of the cochain word w, and its cochain; else what is wrong with the word
--     cocycle_of K w     the same of a cocycle
--     chain_of K w       the same of a chain word
-- A number stands for the canonical cocycle, or the cycle, of its class.
use Rattle.std.specs.Prelude.{ℕ, [], ◌∷◌, Result, Ok, Err}
use Rattle.homology.specs.Sets.{Ids, set_of}
use Rattle.homology.specs.Complexes.{Complex}
use Rattle.homology.specs.Kinds.{betti}
use Rattle.cohomology.specs.Classes.{canonical}
use Rattle.cohomology.specs.Cycles.{class_cycle}
use Rattle.cohomology.specs.Words.{NotSettled, settled, numbered, tested}
use Rattle.language.specs.Language.{CochainWord, ChainWord}
use Rattle.language.specs.Grammar.{and_then}
use Rattle.transcript.specs.Refusals.{Why, not_settled}

abbrev pub with_degree : ℕ → Result Ids NotSettled → Result (ℕ × Ids) Why
with_degree p (Ok a) = Ok (p, a)
with_degree p (Err why) = Err (not_settled why)

abbrev pub cochain_of : Complex → CochainWord → Result (ℕ × Ids) Why
cochain_of K (CochainWord.Literal p simplices) = with_degree p (settled K p simplices)
cochain_of K (CochainWord.Classes p numbers) = with_degree p (numbered (betti K p) (λ k. set_of (canonical K p (k ∷ []))) numbers)

abbrev pub chain_of : Complex → ChainWord → Result (ℕ × Ids) Why
chain_of K (ChainWord.Literal p simplices) = with_degree p (settled K p simplices)
chain_of K (ChainWord.Cycles p numbers) = with_degree p (numbered (betti K p) (λ k. set_of (class_cycle K p (k ∷ []))) numbers)

abbrev pub cocycle_of : Complex → CochainWord → Result (ℕ × Ids) Why
cocycle_of K w = and_then (cochain_of K w) (λ (p, a). with_degree p (tested K a))
