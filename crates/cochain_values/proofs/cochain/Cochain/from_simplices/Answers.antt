use Rattle.std.proofs.Common.{◌≡◌, sym, subst, ap, ◌∙◌, rules}
use Rattle.homology.specs.Sets.{Ids, plus, single}
use Rattle.homology.specs.ListSums.{sum_over}
use Rattle.homology.specs.Chains.{IsChain}
use Rattle.homology.proofs.ContractionFacts.{plus-chain}
use Rattle.homology.proofs.ListSumLaws.{sum_over-push}
use Rattle.cohomology.specs.Words.{settled}
use Rattle.cochain_values.specs.Refusals.{Refuses}
use Rattle.cochain_values.proofs.LiteralLaws.{settled-more, settled-refused}
use Rattle.cochain_values.proofs.cochain.Cochain.from_simplices.Goals as goal

pub returns-in_err-id-clause-refused : goal.returns-in_err-id-clause-refused
returns-in_err-id-clause-refused c =
    let refused : Refuses (settled c.args.k.now c.args.degree c.args.simplices.now) c.in_err-id.field-0.0 =
    settled-refused c.args.k.now c.args.degree c.args.simplices.now c.loop-s.s-index c.s-item.result (sum_over c.loop-s.ids.items single) c.in_err-id.field-0.0
    c.s-item.is c.loop-s-test.true c.loop-s.invariant.settled c.in_err-id.ensures.refused in
    search rules

pub loop-s-preserved : goal.loop-s-preserved
loop-s-preserved c =
    let K = c.args.k.now in
    let p = c.args.degree in
    let id = c.in_ok-id.id in
    let more : sum_over c.push.new.ids.items single ≡ plus (sum_over c.loop-s.ids.items single) (single id) =
    ap (λ l. sum_over l single) c.in_ok-push.ensures ∙ sum_over-push c.loop-s.ids.items id single in
    record {
      settled =
          settled-more K p c.args.simplices.now c.loop-s.s-index c.s-item.result id (sum_over c.loop-s.ids.items single) (sum_over c.push.new.ids.items single)
          c.s-item.is c.loop-s-test.true c.loop-s.invariant.settled c.in_ok-id.ensures.read more;
      stands =
          subst (IsChain K p) (sym more)
          (plus-chain K p (sum_over c.loop-s.ids.items single) (single id) c.loop-s.invariant.stands c.in_ok-id.ensures.there);
    }
