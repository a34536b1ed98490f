use Rattle.std.proofs.Common.{◌≡◌, ◌+◌, ◌<◌, ℕ, length, sym, ap, subst, ◌∙◌, arith}
use Rattle.homology.specs.Kinds.{ids}
use Rattle.class_keeping.specs.Tables.{IsTable}
use Rattle.f2_chains.proofs.Orders.{refilled}
use Rattle.class_cache.proofs.ListedChains.{f-within, read-item}
use Rattle.class_keeping.proofs.TableLaws.{table-more}
use Rattle.class_keeping.proofs.table.table.Goals as goal

pub put_in-requires : goal.put_in-requires
put_in-requires c = λ k d h. omega (
  arith,
  f-within c.args.m.now c.complex.ensures.complex c.at-t.result.now c.in_ok-f.f c.ids-in-loop-place.result.now
      (omega (arith, c.of_dimension-simplices.ensures.within c.loop-place.place c.at-t.result.now (omega (arith, c.loop-place-test.true, c.len-place-end.ensures.count)), c.at-t.ensures, ap length c.complex.ensures.same))
      c.in_ok-f.ensures c.ids-in-loop-place.ensures.ids k d h,
  ap length c.deref_mut.ensures.value,
  c.loop-place.invariant.fits,
)

pub loop-place-preserved : goal.loop-place-preserved
loop-place-preserved c =
    let K = c.args.m.now in
    let p = c.args.degree in
    let listed : c.of_dimension-simplices.result.now.items ≡ ids K p = c.of_dimension-simplices.ensures.ids ∙ ap (λ k. ids k p) c.complex.ensures.same in
    let lt : c.loop-place.place < length (ids K p) = omega (arith, c.loop-place-test.true, c.len-place-end.ensures.count, ap length listed) in
    let back = refilled c.loop-place.table.len c.loop-place.table.items c.put_in.new.table
    (omega (arith, c.loop-place.table.ok.0, c.put_in.ensures.fits, ap length c.deref_mut.ensures.value)) in
    let made : IsTable K p (c.loop-place.place + 1) c.put_in.new.table =
    table-more K p c.loop-place.place c.at-t.result.now c.deref_mut.result.now c.put_in.new.table c.in_ok-f.f c.ids-in-loop-place.result.now lt
    (read-item (ids K p) c.of_dimension-simplices.result.now.items c.loop-place.place c.at-t.result.now c.at-t.ensures listed lt)
    c.in_ok-f.ensures c.ids-in-loop-place.ensures.ascending c.ids-in-loop-place.ensures.ids c.in_ok-put_in.ensures.rows
    (subst (IsTable K p c.loop-place.place) (sym c.deref_mut.ensures.value) c.loop-place.invariant.table) in
    record {
      table = subst (IsTable K p (c.loop-place.place + 1)) (sym back) made;
      fits = ap length back ∙ c.put_in.ensures.fits ∙ ap length c.deref_mut.ensures.value ∙ c.loop-place.invariant.fits;
    }

pub returns-clause-table : goal.returns-clause-table
returns-clause-table c =
    let K = c.args.m.now in
    let p = c.args.degree in
    let listed : c.of_dimension-simplices.result.now.items ≡ ids K p = c.of_dimension-simplices.ensures.ids ∙ ap (λ k. ids k p) c.complex.ensures.same in
    let all : c.loop-place.place ≡ length (ids K p) =
    omega (arith, c.loop-place-test.false, c.loop-place.auto.place-end, c.len-place-end.ensures.count, ap length listed) in
    subst (λ (i : ℕ). IsTable K p i c.loop-place.table.items) all c.loop-place.invariant.table
