use Rattle.std.proofs.Common.{◌≡◌, length, take, refl, sym, ap, ◌∙◌, arith}
use Rattle.std.proofs.lemmas.List.{take_all}
use Rattle.version_roots.specs.Local.{Local}
use Rattle.version_roots.proofs.LocalLaws.{local-looks}
use Rattle.version_roots.proofs.local.LocalBoardBoard.look.Goals as goal

pub returns : goal.returns
returns c =
    let shown = c.self.view_is ∙ c.show.ensures in
    let whole : take c.self.inside.shown c.self.inside.book ≡ c.self.inside.book =
    take_all c.self.inside.shown c.self.inside.book (omega (arith, ap (λ (b : Local). b.shown) shown, ap (λ (b : Local). length b.whole) shown)) in
    ((refl, (λ _. tt), (local-looks c.args.self.now _ shown, c.root.ensures ∙ sym whole)), record { rests = tt; told = λ e. e })
