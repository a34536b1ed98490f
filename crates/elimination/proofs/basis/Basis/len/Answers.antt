use Rattle.std.proofs.Common.{◌≤◌, length, subst, arith}
use Rattle.elimination.specs.Rows.{Given}
use Rattle.elimination.proofs.KeptLaws.{kept-few, given-few}
use Rattle.elimination.proofs.basis.Basis.len.Goals as goal

pub overflow_cast-result : goal.overflow_cast-result
overflow_cast-result c = omega (arith, kept-few c.self.inside.width c.self.inside.kept.items c.self.invariant, c.len.ensures)

pub returns-clause-few : goal.returns-clause-few
returns-clause-few c =
    subst (λ (g : Given). length g.rows ≤ g.width) c.self.view_is (given-few c.self.inside.width c.self.inside.kept.items c.self.invariant)
