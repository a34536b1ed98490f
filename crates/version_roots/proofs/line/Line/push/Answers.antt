use Rattle.std.proofs.Common.{map, arith}
use Rattle.std.proofs.lemmas.List.{length-map}
use Rattle.lines.proofs.LineLaws.{legal-short}
use Rattle.version_roots.specs.Entries.{entry_of}
use Rattle.version_roots.proofs.line.Line.push.Goals as goal

pub push-requires : goal.push-requires
push-requires c =
    let items = c.self.inside.entries.items in
    let short = legal-short (map entry_of items) c.self.invariant.legal in
    omega (arith, length-map items entry_of, short.count, short.few_returns, short.room, short.few_cuts)
