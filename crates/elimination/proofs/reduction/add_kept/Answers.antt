use Rattle.std.proofs.Common.{◌≡◌, ◌&&◌, true, sym, ◌∙◌}
use Rattle.homology.specs.Sets.{plus}
use Rattle.elimination.specs.Rows.{entry}
use Rattle.elimination.proofs.reduction.add_kept.Goals as goal

pub returns-then-get-clause-rest : goal.returns-then-get-clause-rest
returns-then-get-clause-rest c =
    let v = entry c.args.rest.now in
    let k = c.args.k.now in
    let one : true ≡ v k.lead = sym c.if-get.true ∙ c.get.ensures in
    c.add.ensures.sum ∙ (λ i. plus v (λ q. one i && entry k.reduced q))

pub returns-then-get-clause-terms : goal.returns-then-get-clause-terms
returns-then-get-clause-terms c =
    let v = entry c.args.rest.now in
    let k = c.args.k.now in
    let one : true ≡ v k.lead = sym c.if-get.true ∙ c.get.ensures in
    c.add-then-get.ensures.sum ∙ (λ i. plus (entry c.args.terms.now) (λ j. one i && entry k.terms j))
