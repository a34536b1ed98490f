use Rattle.std.proofs.Common.{rules, ◌<◌, ◌+◌, ℕ, subst, sym, slice_index_or}
use Rattle.worker_rounds.specs.Rounds.{IsFiled}
use Rattle.worker_rounds.proofs.Places.{filed-answer, filed-still, given-more}
use Rattle.worker_rounds.proofs.round.in_order.Goals as goal

pub loop-job-preserved : goal.loop-job-preserved
loop-job-preserved g c =
    let filed : IsFiled (g.W.Work.gives c.args.work.now) c.args.jobs.now c.loop-job.job c.index_mut.result.now =
    subst (IsFiled (g.W.Work.gives c.args.work.now) c.args.jobs.now c.loop-job.job) (sym c.index_mut.ensures.value)
    (subst (λ p. IsFiled (g.W.Work.gives c.args.work.now) c.args.jobs.now c.loop-job.job (slice_index_or c.loop-job.slots.items p c.index_mut.result.now)) (sym c.place_of.ensures.value)
    (c.loop-job.invariant.2 c.loop-job.job c.index_mut.result.now (search rules) (search rules))) in (
      search rules,
      search rules,
      filed-still (g.W.Work.gives c.args.work.now) c.args.jobs.now c.loop-job.slots.items c.loop-job.job c.args.workers c.args.turns c.place_of.result c.take.new.self c.requires.some c.requires.all c.place_of.ensures.value c.loop-job.invariant.2,
      subst (λ answers. (k : ℕ) (j : _) (a : _) → k < c.loop-job.job + 1 → g.W.Work.gives c.args.work.now (slice_index_or c.args.jobs.now k j) (slice_index_or answers k a)) (sym c.in_ok-push.ensures.items)
          (given-more (g.W.Work.gives c.args.work.now) c.args.jobs.now c.loop-job.answers.items c.loop-job.job c.in_ok-answer.field-0 c.loop-job.invariant.1
          (filed-answer (g.W.Work.gives c.args.work.now) c.args.jobs.now c.loop-job.job c.index_mut.result.now c.in-Some.answer c.in_ok-answer.field-0 (search rules) (search rules) filed) c.loop-job.invariant.3),
    )
