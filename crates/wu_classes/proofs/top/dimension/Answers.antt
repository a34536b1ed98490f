use Rattle.std.proofs.Common.{◌≡◌, Ok, subst}
use Rattle.homology.specs.Complexes.{Complex}
use Rattle.manifolds.specs.Closed.{closed}
use Rattle.manifold_links.specs.Refusals.{ClosedRefuses}
use Rattle.wu_classes.proofs.Dimensions.{top-is}
use Rattle.wu_classes.proofs.Refusing.{closed-refuses}
use Rattle.wu_classes.proofs.top.dimension.Goals as goal

pub returns-in-Ok-clause-top : goal.returns-in-Ok-clause-top
returns-in-Ok-clause-top c =
    top-is c.args.m.now c.complex.ensures.complex c.complex.ensures.narrow c.in-Ok.n (subst (λ (K : Complex). closed K ≡ Ok c.in-Ok.n) c.model.ensures c.in-Ok.ensures.dimension)

pub returns-in-Err-clause-refused : goal.returns-in-Err-clause-refused
returns-in-Err-clause-refused c =
    closed-refuses c.args.m.now c.in-Err.refusal (subst (λ (K : Complex). ClosedRefuses (closed K) c.in-Err.refusal) c.model.ensures c.in-Err.ensures.refused)
