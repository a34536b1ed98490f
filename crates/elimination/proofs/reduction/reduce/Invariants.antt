use Rattle.std.specs.Prelude.{◌≡◌, ℕ, ◌≤◌, false, length, take}
use Rattle.homology.specs.Sets.{plus, image}
use Rattle.elimination.specs.Rows.{entry, entries_at}
use Rattle.elimination.specs.Reductions.{givens, rest_of}
use Rattle.elimination.proofs.reduction.reduce.Given as goal

abbrev pub invariant-loop-k : goal.invariant-loop-k
invariant-loop-k l = record {
  rest : entry l.rest ≡ rest_of (entry l.row) (take l.k-index l.kept);
  sum : plus (entry l.row) (image (length l.row) (entries_at (givens l.kept)) (entry l.terms)) ≡ entry l.rest;
  few : (j : ℕ) → length l.kept ≤ j → entry l.terms j ≡ false;
  rest_width : length l.rest ≡ length l.row;
  terms_width : length l.terms ≡ length l.row;
}
