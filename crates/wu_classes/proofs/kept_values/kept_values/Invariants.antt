use Rattle.std.specs.Prelude.{◌≡◌, ℕ, ◌<◌, ◌≤◌, false, [], ◌∷◌, length}
use Rattle.homology.specs.Kinds.{betti}
use Rattle.homology.specs.ListSums.{odd_over}
use Rattle.characteristic_classes.specs.Pairings.{cocycle}
use Rattle.elimination.specs.Rows.{entry}
use Rattle.wu_classes.proofs.kept_values.kept_values.Given as goal

abbrev pub invariant-loop-k : goal.invariant-loop-k
invariant-loop-k l = record {
  width : length l.row ≡ betti l.m l.degree;
  done : (i : ℕ) → i < l.k → entry l.row i ≡ odd_over l.chain (cocycle l.m l.degree (i ∷ []));
  rest : (i : ℕ) → l.k ≤ i → entry l.row i ≡ false;
}
