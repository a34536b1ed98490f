use Rattle.std.proofs.Common.{◌+◌, None, length, slice_index_or, ap, ◌∙◌, arith}
use Rattle.std.proofs.lemmas.List.{length_push}
use Rattle.share_index.proofs.BucketLaws.{none_more, IsFiled-none}
use Rattle.share_index.proofs.buckets.Buckets.empty.Goals as goal

pub loop-init : goal.loop-init
loop-init c = record {
  count = ap length c.new-last.ensures.items;
  none = λ b. ap (λ l. slice_index_or l b None) c.new-last.ensures.items;
}

pub push-requires : goal.push-requires
push-requires c = omega (arith, c.loop.invariant.count, c.loop-test.true, c.requires)

pub loop-preserved : goal.loop-preserved
loop-preserved c = record {
  count = ap length c.in_ok-push.ensures.pushed ∙ length_push c.loop.last.items None ∙ ap (λ n. n + 1) c.loop.invariant.count;
  none = λ b. ap (λ l. slice_index_or l b None) c.in_ok-push.ensures.pushed ∙ none_more c.loop.last.items c.loop.invariant.none b;
}

pub returns-clause-buckets : goal.returns-clause-buckets
returns-clause-buckets c = omega (arith, c.loop.invariant.count, c.loop-test.false, c.loop.auto.counter-end)

pub returns-clause-filed : goal.returns-clause-filed
returns-clause-filed c hs = IsFiled-none hs c.loop.last.items c.new-before.result.items c.new-before.ensures.items c.loop.invariant.none
