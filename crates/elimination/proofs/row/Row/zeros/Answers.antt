use Rattle.std.proofs.Common.{rules}
use Rattle.elimination.proofs.BitLaws.{length-row_of, zero-row}
use Rattle.elimination.proofs.row.Row.zeros.Goals as goal

pub returns-clause-width : goal.returns-clause-width
returns-clause-width c = length-row_of c.args.width c.in_ok-words.words.items

pub returns-clause-zeros : goal.returns-clause-zeros
returns-clause-zeros c =
    zero-row c.args.width c.div_ceil-count.result c.in_ok-words.words.items (c.in_ok-words.ensures.items_if_clones_equal (λ y e. search rules))
