use Rattle.std.proofs.Common.{◌==◌, arith}
use Rattle.std.proofs.lemmas.Bool.Decides.{nat_tests}
use Rattle.std.proofs.lemmas.List.Splits.{length-slice_split}
use Rattle.facet_reader.proofs.simplex_word.is_narrow.Goals as goal

pub returns : goal.returns
returns c =
    let parts = length-slice_split (λ x. x == 45) c.args.word.now in
    grind (arith, nat_tests)
