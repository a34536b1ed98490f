use Rattle.std.proofs.Common.{ℕ, List, length, sym, ap, ◌∙◌, arith}
use Rattle.homology.specs.Sets.{set_of}
use Rattle.homology.specs.Complexes.{incidence}
use Rattle.homology.proofs.BoundaryLaws.{incidence-earlier}
use Rattle.manifold_links.proofs.StarLaws.{run-in}
use Rattle.manifold_links.proofs.circle.step.Goals as goal

pub beyond-requires-clause-there : goal.beyond-requires-clause-there
beyond-requires-clause-there c =
    let K = c.args.k.now in
    let t = c.other-edge.result in
    (run-in (incidence K c.args.at.now.coface) (length K) t (ap (λ (l : List ℕ). set_of l t) (sym (c.of-edges.ensures ∙ c.requires.cofaces.each c.args.at.now.coface c.requires.there)) ∙ c.other-edge.ensures)).0

pub returns : goal.returns
returns c =
    let K = c.args.k.now in
    let t = c.other-edge.result in
    let e = run-in (incidence K c.args.at.now.coface) (length K) t (ap (λ (l : List ℕ). set_of l t) (sym (c.of-edges.ensures ∙ c.requires.cofaces.each c.args.at.now.coface c.requires.there)) ∙ c.other-edge.ensures) in
    record {
      edge = t;
      edge_below = e.0;
      edge_at = e.1;
      edge_beyond = c.in_ok-coface.ensures.0;
      below = omega (arith, e.0, incidence-earlier K c.requires.complex c.in_ok-coface.coface t e.0 c.in_ok-coface.ensures.0);
      coface = c.in_ok-coface.ensures.1;
      two = omega (arith, c.if-edges-ne2.false, ap length (c.of-edges.ensures ∙ c.requires.cofaces.each c.args.at.now.coface c.requires.there));
    }
