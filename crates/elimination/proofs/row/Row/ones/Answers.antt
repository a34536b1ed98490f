use Rattle.std.proofs.Common.{◌≡◌, ◌+◌, ◌<◌, sym, ap, ◌∙◌, length, arith}
use Rattle.std.specs.List.{filter, range_with_len}
use Rattle.homology.specs.Sets.{set_of}
use Rattle.homology.proofs.ListSetLaws.{set_of-All}
use Rattle.elimination.specs.Rows.{entry}
use Rattle.elimination.proofs.BitLaws.{entry-within, filter-more, listed, listed-ascending}
use Rattle.elimination.proofs.row.Row.ones.Goals as goal
use Rattle.elimination.proofs.row.Row.ones.Goals.{then-get+in_ok-push, else-get}

pub loop-q-preserved : goal.loop-q-preserved
loop-q-preserved c =
    let r = c.args.self.now in
    let q = c.loop-q.q in
    let xs = c.loop-q.places.items in
    let more = filter-more (entry r) q xs c.loop-q.invariant in
    elim c.if-get.branch as (λ _. c.if-get.places.items ≡ filter (entry r) (range_with_len 0 (q + 1))) [
      | then-get+in_ok-push w ↦ (λ i. (w.places-is i).items) ∙ w.in_ok-push.ensures.items ∙ more.0 (sym c.get.ensures ∙ w.if-get.true)
      | else-get w ↦ (λ i. (w.places-is i).items) ∙ more.1 (sym c.get.ensures ∙ w.if-get.false)
    ]

pub returns-clause-set : goal.returns-clause-set
returns-clause-set c =
    listed c.args.self.now c.loop-q.q c.loop-q.places.items c.loop-q.invariant (omega (arith, c.width-q-end.ensures, c.loop-q-test.false))

pub returns-clause-ascending : goal.returns-clause-ascending
returns-clause-ascending c = listed-ascending (entry c.args.self.now) c.loop-q.q c.loop-q.places.items c.loop-q.invariant

pub returns-clause-within : goal.returns-clause-within
returns-clause-within c =
    let r = c.args.self.now in
    let xs = c.loop-q.places.items in
    let set : set_of xs ≡ entry r = listed r c.loop-q.q xs c.loop-q.invariant (omega (arith, c.width-q-end.ensures, c.loop-q-test.false)) in
    set_of-All (λ q. q < length r) xs (λ q there. entry-within r q (ap (λ z. z q) (sym set) ∙ there))
