use Rattle.std.proofs.Common.{sym, ap, ◌∙◌}
use Rattle.lines.specs.Lines.{Line, cuts, simplices, version}
use Rattle.version_roots.proofs.KeptLaws.{version-cut}
use Rattle.version_roots.proofs.root.Root.with_cut.Goals as goal

pub invariant_of-result : goal.invariant_of-result
invariant_of-result c =
    c.requires.model ∙ sym (ap simplices (c.in_ok-line.ensures ∙ c.self.view_is)) ∙ sym (version-cut c.in_ok-line.line c.args.caller)
    ∙ sym (ap (λ (L : Line). version L (cuts L)) c.in_ok-push.ensures.pushed)
