use Rattle.std.specs.Prelude.{◌≡◌, ℕ, ◌-◌, ◌<◌, ◌≤◌, [], ◌∷◌, false, length}
use Rattle.homology.specs.Kinds.{betti}
use Rattle.cohomology_operations.specs.Squares.{square}
use Rattle.characteristic_classes.specs.Pairings.{cocycle, on_top}
use Rattle.elimination.specs.Rows.{entry}
use Rattle.wu_classes.proofs.wu_words.values_of_squares.Given as goal

abbrev pub invariant-loop-number : goal.invariant-loop-number
invariant-loop-number l = record {
  width : length l.values ≡ betti l.m (l.n - l.k);
  done : (i : ℕ) → i < l.number → entry l.values i ≡ on_top l.m (square l.m l.k (l.n - l.k) (cocycle l.m (l.n - l.k) (i ∷ [])));
  rest : (i : ℕ) → l.number ≤ i → entry l.values i ≡ false;
}
