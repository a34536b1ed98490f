use Rattle.std.proofs.Common.{◌<◌, [], length, length-set, refl, ap, ◌∙◌, arith}
use Rattle.std.specs.Prelude.{slice_index_or}
use Rattle.std.proofs.lemmas.List.{take_all}
use Rattle.homology.specs.Sets.{Ids, plus, set_of, single}
use Rattle.homology.specs.ListSums.{sum_over}
use Rattle.class_cache.proofs.ListedChains.{item-any}
use Rattle.wu_classes.specs.Sums.{where_odd}
use Rattle.wu_classes.proofs.SumLaws.{add-none, add-more}
use Rattle.wu_classes.proofs.face_sums.add_to.Goals as goal

pub loop-h-init : goal.loop-h-init
loop-h-init c = record { rows = add-none c.args.sums.now c.args.ids.now (sum_over c.args.more.now single); fits = refl }

pub loop-h-preserved : goal.loop-h-preserved
loop-h-preserved c =
    let xs = c.args.ids.now in
    let i = c.loop-h.h-index in
    let x = slice_index_or xs i 0 in
    let a : Ids = sum_over c.args.more.now single in
    let within : x < length c.loop-h.sums = omega (arith, c.requires i 0 c.loop-h-test.true, c.loop-h.invariant.fits) in
    record {
      rows = add-more c.args.sums.now c.loop-h.sums xs i x c.toggle_all.new.chain a c.loop-h-test.true refl within
          (c.in_ok-toggle_all.ensures
          ∙ ap (λ l. plus (set_of l) a) (item-any c.loop-h.sums x c.index-sums-h.result [] within))
          c.loop-h.invariant.rows;
      fits = length-set c.loop-h.sums x c.toggle_all.new.chain ∙ c.loop-h.invariant.fits;
    }

pub returns-clause-rows : goal.returns-clause-rows
returns-clause-rows c = λ h.
    c.loop-h.invariant.rows h
    ∙ ap (λ l. plus (set_of (slice_index_or c.args.sums.now h [])) (where_odd l h (sum_over c.args.more.now single)))
    (take_all c.loop-h.h-index c.args.ids.now c.loop-h-test.false)
