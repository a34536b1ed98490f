use Rattle.std.proofs.Common.{sym, ap, ◌∙◌}
use Rattle.std.specs.Prelude.{Err}
use Rattle.manifolds.specs.Closed.{NotPure, Ridge, closed}
use Rattle.manifold_links.proofs.ClosedLaws.{closed-empty, not-pure, ridge, closed-all}
use Rattle.manifold_links.proofs.closedness.closed.Goals as goal

pub returns-in_default-clause-refused : goal.returns-in_default-clause-refused
returns-in_default-clause-refused c = closed-empty c.args.m.now (sym c.complex-k.ensures.same ∙ c.in_default.ensures)

pub returns-in-Some-uncovered-clause-refused : goal.returns-in-Some-uncovered-clause-refused
returns-in-Some-uncovered-clause-refused c =
    ap closed (sym c.complex-k.ensures.same)
    ∙ not-pure c.complex-k.result.now c.in-Some.n c.in_ok-cover.cover.uncovered c.in-Some-uncovered.id c.in-Some.ensures c.in_ok-cover.ensures.first c.in-Some-uncovered.is
    ∙ ap (λ s. Err (NotPure s)) (sym c.simplex.ensures)

pub returns-in-Some-first_faulty_ridge-clause-refused : goal.returns-in-Some-first_faulty_ridge-clause-refused
returns-in-Some-first_faulty_ridge-clause-refused c =
    ap closed (sym c.complex-k.ensures.same)
    ∙ ridge c.complex-k.result.now c.in-Some.n c.in_ok-cover.cover.uncovered c.first_faulty_ridge.result c.in-Some-first_faulty_ridge.id c.times.result c.in-Some.ensures
    c.in_ok-cover.ensures.first c.in_default-uncovered.is c.first_faulty_ridge.ensures.first c.in-Some-first_faulty_ridge.is c.times.ensures
    ∙ ap (λ s. Err (Ridge s c.times.result)) (sym c.simplex-in-Some-first_faulty_ridge.ensures)

pub returns-clause-dimension : goal.returns-clause-dimension
returns-clause-dimension c =
    ap closed (sym c.complex-k.ensures.same)
    ∙ closed-all c.complex-k.result.now c.in-Some.n c.in_ok-cover.cover.uncovered c.first_faulty_ridge.result c.in-Some.ensures
    c.in_ok-cover.ensures.first c.in_default-uncovered.is c.first_faulty_ridge.ensures.first c.in_default-first_faulty_ridge.is
