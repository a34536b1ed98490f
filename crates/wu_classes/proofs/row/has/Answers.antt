use Rattle.std.proofs.Common.{◌∙◌}
use Rattle.f2_chains.proofs.Searches.{found-set_of}
use Rattle.wu_classes.proofs.row.has.Goals as goal

pub returns : goal.returns
returns c =
    c.is_ok.ensures.value
    ∙ found-set_of c.ids.result.now c.args.chain.now c.args.id c.binary_search.result c.ids.ensures.ids c.ids.ensures.ascending c.binary_search.ensures.position
