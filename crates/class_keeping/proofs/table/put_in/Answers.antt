use Rattle.std.proofs.Common.{◌<◌, [], length, length-set, refl, ap, ◌∙◌, arith}
use Rattle.std.specs.Prelude.{slice_index_or}
use Rattle.std.proofs.lemmas.List.{take_all}
use Rattle.homology.specs.Sets.{plus, set_of, single}
use Rattle.class_keeping.specs.Tables.{where_odd}
use Rattle.class_cache.proofs.ListedChains.{item-any}
use Rattle.class_keeping.proofs.TableLaws.{put-more}
use Rattle.class_keeping.proofs.table.put_in.Goals as goal

pub loop-h-preserved : goal.loop-h-preserved
loop-h-preserved c =
    let xs = c.args.ids.now in
    let i = c.loop-h.h-index in
    let x = slice_index_or xs i 0 in
    let within : x < length c.loop-h.table = omega (arith, c.requires i 0 c.loop-h-test.true, c.loop-h.invariant.fits) in
    record {
      rows = put-more c.args.table.now c.loop-h.table xs i c.args.t x c.toggle.new.self c.loop-h-test.true refl within
          (c.in_ok-toggle.ensures.toggled
          ∙ ap (λ l. plus (set_of l) (single c.args.t)) (item-any c.loop-h.table x c.index-table-h.result [] within))
          c.loop-h.invariant.rows;
      fits = length-set c.loop-h.table x c.toggle.new.self ∙ c.loop-h.invariant.fits;
    }

pub returns-clause-rows : goal.returns-clause-rows
returns-clause-rows c = λ h.
    c.loop-h.invariant.rows h
    ∙ ap (λ l. plus (set_of (slice_index_or c.args.table.now h [])) (where_odd l h c.args.t)) (take_all c.loop-h.h-index c.args.ids.now c.loop-h-test.false)
