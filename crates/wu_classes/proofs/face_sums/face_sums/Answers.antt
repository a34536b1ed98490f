use Rattle.std.proofs.Common.{◌≡◌, ◌+◌, ◌<◌, ℕ, List, length, take, sym, ap, subst, ◌∙◌, arith}
use Rattle.std.specs.List.{All}
use Rattle.std.proofs.lemmas.List.{take_all}
use Rattle.homology.specs.Kinds.{ids}
use Rattle.f2_chains.proofs.Orders.{refilled}
use Rattle.class_cache.proofs.ListedChains.{read-item}
use Rattle.wu_classes.specs.Sums.{AreSums}
use Rattle.wu_classes.proofs.SumLaws.{sums-none, sums-more}
use Rattle.wu_classes.proofs.face_sums.face_sums.Goals as goal

pub loop-place-init : goal.loop-place-init
loop-place-init c = record {
  sums = sums-none c.args.k.now c.args.p (ids c.args.k.now c.args.n) c.in_ok-sums.sums.items c.in_ok-sums.ensures.empty;
  fits = omega (arith, c.in_ok-sums.ensures.count, c.len.ensures.count);
}

pub add_to-requires : goal.add_to-requires
add_to-requires c = λ j d h. omega (
  arith,
  subst (All (λ (x : ℕ). x < length c.args.k.now)) (sym c.ids.ensures.ids) c.ends_of-ends.ensures.within j d h,
  ap length c.deref_mut.ensures.value,
  c.loop-place.invariant.fits,
)

pub loop-place-preserved : goal.loop-place-preserved
loop-place-preserved c =
    let K = c.args.k.now in
    let p = c.args.p in
    let xs = ids K c.args.n in
    let listed : c.of_dimension-simplices.result.now.items ≡ xs = c.of_dimension-simplices.ensures.ids in
    let lt : c.loop-place.place < length xs = omega (arith, c.loop-place-test.true, c.len-place-end.ensures.count, ap length listed) in
    let back = refilled c.loop-place.sums.len c.loop-place.sums.items c.add_to.new.sums
    (omega (arith, c.loop-place.sums.ok.0, c.add_to.ensures.fits, ap length c.deref_mut.ensures.value)) in
    let made : AreSums K p (take (c.loop-place.place + 1) xs) c.add_to.new.sums =
    sums-more K p c.loop-place.place c.at-x.result.now xs c.deref_mut.result.now c.add_to.new.sums c.ends_of-ends.result.front.now c.ends_of-ends.result.back.now
    c.ids.result.now c.ids-in-loop-place.result.now lt
    (read-item xs c.of_dimension-simplices.result.now.items c.loop-place.place c.at-x.result.now c.at-x.ensures listed lt)
    c.ends_of-ends.ensures.ends c.ids.ensures.ascending c.ids-in-loop-place.ensures.ascending c.ids.ensures.ids c.ids-in-loop-place.ensures.ids c.in_ok-add_to.ensures.rows
    (subst (AreSums K p (take c.loop-place.place xs)) (sym c.deref_mut.ensures.value) c.loop-place.invariant.sums) in
    record {
      sums = subst (AreSums K p (take (c.loop-place.place + 1) xs)) (sym back) made;
      fits = ap length back ∙ c.add_to.ensures.fits ∙ ap length c.deref_mut.ensures.value ∙ c.loop-place.invariant.fits;
    }

pub returns-clause-sums : goal.returns-clause-sums
returns-clause-sums c =
    let K = c.args.k.now in
    let xs = ids K c.args.n in
    subst (λ (l : List ℕ). AreSums K c.args.p l c.loop-place.sums.items)
    (take_all c.loop-place.place xs (omega (arith, c.loop-place-test.false, c.len-place-end.ensures.count, ap length c.of_dimension-simplices.ensures.ids)))
    c.loop-place.invariant.sums
