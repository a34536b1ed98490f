use Rattle.std.proofs.Common.{ℕ, cond, get_or, nat_eq, take, refl, ap, ◌∙◌, arith}
use Rattle.std.specs.Prelude.{count_by}
use Rattle.std.proofs.lemmas.List.{length-take-le, take_all}
use Rattle.std.proofs.lemmas.List.Sums.{count_by-le-length, sum_by_more}
use Rattle.manifold_links.proofs.counts.count_all.Goals as goal

pub loop-id-init : goal.loop-id-init
loop-id-init c = record { counted = λ q. omega arith; fits = refl }

pub count-requires-clause-small : goal.count-requires-clause-small
count-requires-clause-small c =
    let ids = c.args.ids.now in
    let i = c.loop-id.id-index in
    let q : ℕ = get_or ids i 0 in
    omega (
      arith,
      c.loop-id.invariant.counted q,
      count_by-le-length (λ t. nat_eq q t) (take i ids),
      length-take-le i ids (omega (arith, c.loop-id-test.true)),
      c.loop-id-test.true,
      c.requires.small q 0 (c.requires.within i 0 c.loop-id-test.true),
    )

pub loop-id-preserved : goal.loop-id-preserved
loop-id-preserved c =
    let ids = c.args.ids.now in
    let i = c.loop-id.id-index in
    record {
      counted = λ q. omega (
        arith,
        c.count.ensures.counted q,
        c.loop-id.invariant.counted q,
        sum_by_more (λ t. cond (nat_eq q t) 1 0) ids i 0 c.loop-id-test.true,
      );
      fits = c.count.ensures.fits ∙ c.loop-id.invariant.fits;
    }

pub returns-clause-counted : goal.returns-clause-counted
returns-clause-counted c = λ q.
    let ids = c.args.ids.now in
    omega (
      arith,
      c.loop-id.invariant.counted q,
      ap (count_by (λ t. nat_eq q t)) (take_all c.loop-id.id-index ids (omega (arith, c.loop-id-test.false))),
    )
