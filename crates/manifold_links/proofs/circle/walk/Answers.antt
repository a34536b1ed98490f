use Rattle.std.proofs.Common.{List, ℕ, refl, sym, ap, ◌∙◌}
use Rattle.std.proofs.lemmas.Bool.{true≢false}
use Rattle.homology.specs.Sets.{set_of}
use Rattle.manifold_links.specs.Circles.{IsBeside}
use Rattle.manifold_links.proofs.WalkLaws.{comes-on, walked-in}
use Rattle.manifold_links.proofs.circle.walk.Goals as goal

pub loop-step-init : goal.loop-step-init
loop-step-init c = record {
  walked = λ z m. absurd (true≢false (sym m ∙ ap (λ (l : List ℕ). set_of l z) c.new-walked.ensures.items));
  there = c.requires.start;
  comes = refl;
}

pub loop-step-preserved : goal.loop-step-preserved
loop-step-preserved c =
    let K = c.args.k.now in
    let x = c.args.id in
    let z = c.loop-step.at.coface in
    let beside : IsBeside K x z c.in-Some.place.coface = c.in-Some.ensures in
    record {
      walked = walked-in K x c.args.start c.loop-step._step z c.loop-step.walked.items c.push.new.self.items c.loop-step.invariant.walked c.in_ok-push.ensures.items
          c.loop-step.invariant.comes beside.two;
      there = beside.below;
      comes = comes-on K x c.args.start c.loop-step._step z c.in-Some.place.coface c.loop-step.invariant.comes beside;
    }
