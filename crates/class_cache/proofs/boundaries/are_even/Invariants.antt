use Rattle.std.specs.Prelude.{◌≡◌, false, take}
use Rattle.std.specs.List.{All}
use Rattle.std.specs.List.Sorted.{IsStrictlyIncreasing}
use Rattle.homology.specs.ListSums.{odd_over}
use Rattle.cochain_values.specs.Marks.{marked}
use Rattle.class_cache.proofs.boundaries.are_even.Given as goal

abbrev pub invariant-loop-chain : goal.invariant-loop-chain
invariant-loop-chain l = All (λ c. IsStrictlyIncreasing c × (odd_over c (marked l.marks) ≡ false)) (take l.chain-index l.chains)
