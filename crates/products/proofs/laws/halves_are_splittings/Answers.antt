use Rattle.std.proofs.Common.{sym, ◌∙◌, suc, true}
use Rattle.homology.specs.Complexes.{simplex_at}
use Rattle.products.specs.Products.{value_at}
use Rattle.products.proofs.SplittingLaws.{weigh-splittings}
use Rattle.products.proofs.HalfLaws.{meets, product_at-weigh}
use Rattle.products.proofs.CoboundaryLaw.{cup-weigh}
use Rattle.products.proofs.laws.halves_are_splittings.Goals as goal

pub returns-clause-of_lists : goal.returns-clause-of_lists
returns-clause-of_lists c = λ i A B s. product_at-weigh i A B s ∙ sym (weigh-splittings (suc i) true s (meets A B))

pub returns-clause-of_simplices : goal.returns-clause-of_simplices
returns-clause-of_simplices c = λ K i a b x.
    cup-weigh K i a b x ∙ sym (weigh-splittings (suc i) true (simplex_at K x) (meets (value_at K a) (value_at K b)))
