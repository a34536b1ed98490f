-- A look that saw what the last ones saw is one more of these.
use Rattle.std.proofs.Common.{◌∷◌, [], ◌++◌, ◌-◌, refl, sym, ap, ◌∙◌, arith}
use Rattle.session_core.proofs.LookLaws.{lengths-again}
use Rattle.session_core.proofs.looks.Looks.add.Goals as goal

pub returns : goal.returns
returns c =
    let runs = c.self.inside.runs in
    let found = c.in-Some.ensures in
    lengths-again runs.items (runs.len - 1) c.in-Some.last.now (omega (arith, runs.ok.0, found.variant.0 refl)) (sym found.value)
    ∙ ap (λ xs. xs ++ c.in-Some.last.now.length ∷ []) (ap (λ l. l.lengths) c.self.view_is)
    ∙ ap (λ n. c.args.self.now.lengths ++ n ∷ []) c.if-last-entries.true
