use Rattle.std.specs.Prelude.{◌≡◌, ◌≤◌, ◌%◌, ◌&&◌, ◌==◌, count_by}
use Rattle.std.specs.List.{range_with_len, remove}
use Rattle.homology.specs.Complexes.{simplex_at}
use Rattle.products.specs.Products.{value_at}
use Rattle.cochain_values.specs.Marks.{marked}
use Rattle.steenrod.proofs.halved.faces_with.Given as goal

abbrev pub invariant-loop-place : goal.invariant-loop-place
invariant-loop-place l = record {
  count : l.count ≡ count_by (λ q. q % 2 == l.rest && value_at l.k (marked l.marks) (remove (simplex_at l.k l.id) q)) (range_with_len 0 l.place);
  few : l.count ≤ l.place;
}
