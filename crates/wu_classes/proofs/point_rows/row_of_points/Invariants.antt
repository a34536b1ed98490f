use Rattle.std.specs.Prelude.{◌≡◌, ℕ, ◌<◌, ◌≤◌, false, [], ◌∷◌, length}
use Rattle.homology.specs.Kinds.{betti}
use Rattle.characteristic_classes.specs.Pairings.{pair}
use Rattle.elimination.specs.Rows.{entry}
use Rattle.wu_classes.proofs.point_rows.row_of_points.Given as goal

abbrev pub invariant-loop-k : goal.invariant-loop-k
invariant-loop-k l = record {
  width : length l.row ≡ betti l.m l.n;
  done : (i : ℕ) → i < l.k → entry l.row i ≡ pair l.m 0 (l.number ∷ []) (i ∷ []);
  rest : (i : ℕ) → l.k ≤ i → entry l.row i ≡ false;
}
