use Rattle.std.specs.Prelude.{◌≡◌, take}
use Rattle.homology.specs.Sets.{set_of}
use Rattle.homology.specs.ListSums.{odd_over}
use Rattle.homology.specs.Complexes.{simplex_at}
use Rattle.products.specs.Products.{value_at}
use Rattle.wu_classes.proofs.point_rows.an_odd_number_begin.Given as goal

abbrev pub invariant-loop-x : goal.invariant-loop-x
invariant-loop-x l = l.odd ≡ odd_over (take l.x-index l.ids) (λ x. value_at l.complex (set_of l.points) (take 1 (simplex_at l.complex x)))
