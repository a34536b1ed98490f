use Rattle.std.specs.Prelude.{◌≡◌, take, Ok}
use Rattle.homology.specs.Sets.{single}
use Rattle.homology.specs.ListSums.{sum_over}
use Rattle.homology.specs.Chains.{IsChain}
use Rattle.cohomology.specs.Words.{settled}
use Rattle.cochain_values.proofs.cochain.Cochain.from_simplices.Given as goal

abbrev pub invariant-loop-s : goal.invariant-loop-s
invariant-loop-s l = record {
  settled : settled l.k l.degree (take l.s-index l.simplices) ≡ Ok (sum_over l.ids.items single);
  stands : IsChain l.k l.degree (sum_over l.ids.items single);
}
