use Rattle.std.proofs.Common.{[], ◌∷◌, ◌++◌, Bool, cond, Some, subst, ◌∙◌}
use Rattle.std.specs.List.{filter}
use Rattle.manifold_links.specs.Firsts.{IsFirst}
use Rattle.manifold_links.proofs.FirstLaws.{first-in, first-out}
use Rattle.manifold_links.proofs.first.with_next.Goals as goal
use Rattle.manifold_links.proofs.first.with_next.Goals.{else-counts-via-then-counts+else-comes_before, else-counts-via-else-counts}

pub returns-else-counts-clause-first : goal.returns-else-counts-clause-first
returns-else-counts-clause-first c = λ test xs e F. elim c.else-counts.branch [
  | else-counts-via-then-counts+else-comes_before w ↦
      first-in c.args.k.now test xs c.args.id c.args.first (e ∙ w.if-counts.true)
      (subst (λ (b : Bool). IsFirst c.args.k.now (filter test xs ++ c.args.id ∷ []) (cond b (Some c.args.id) c.args.first)) w.if-comes_before.false
      (w.comes_before.ensures (filter test xs) F))
  | else-counts-via-else-counts w ↦ first-out c.args.k.now test xs c.args.id c.args.first (e ∙ w.if-counts.false) F
]
