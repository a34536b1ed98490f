use Rattle.std.proofs.Common.{rules, tests}
use Rattle.language.specs.Arguments.{parts}
use Rattle.facet_reader.proofs.Passes.{runs_behind}
use Rattle.facet_reader.proofs.graded.numbered.Goals as goal

pub numbers_of-requires-clause-runs : goal.numbers_of-requires-clause-runs
numbers_of-requires-clause-runs c = runs_behind c.args.mark (parts 43 c.args.list.now) (search (rules, tests))
