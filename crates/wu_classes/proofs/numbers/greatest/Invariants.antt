use Rattle.std.specs.Prelude.{◌≤◌, sum, take}
use Rattle.std.specs.List.{All}
use Rattle.wu_classes.proofs.numbers.greatest.Given as goal

abbrev pub invariant-loop-k : goal.invariant-loop-k
invariant-loop-k l = record {
  above : All (λ k. k ≤ l.greatest) (take l.k-index l.parts);
  small : l.greatest ≤ sum (take l.k-index l.parts);
}
