use Rattle.std.proofs.Common.{arith, subst, sym, ◌<◌, ◌*◌}
use Rattle.worker_rounds.specs.Rounds.{IsFiled, place_of}
use Rattle.worker_rounds.proofs.Places.{place-back, place-within}
use Rattle.worker_rounds.proofs.round.file_answers.Goals as goal

pub returns-clause-filed : goal.returns-clause-filed
returns-clause-filed g c k d within =
    let there : k < c.args.workers * c.args.turns = omega (arith, within, c.requires.all) in
    let p = place_of k c.args.workers c.args.turns in
    let at = c.for_each_mut.ensures p d (subst (λ n. p < n) (sym c.requires.places) (place-within k c.args.workers c.args.turns c.requires.some there)) in
    subst (IsFiled (g.W.Work.gives c.args.work.now) c.args.jobs.now k) at.1.left (at.1.call k (place-back k c.args.workers c.args.turns c.requires.some there) within)
