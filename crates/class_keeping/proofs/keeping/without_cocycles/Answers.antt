use Rattle.std.proofs.Common.{◌∷◌, [], None, length, length-append, ap, ◌∙◌, arith}
use Rattle.std.specs.Prelude.{slice_index_or}
use Rattle.class_cache.proofs.KeptLaws.{none-more}
use Rattle.class_keeping.proofs.keeping.without_cocycles.Goals as goal

pub loop-k-preserved : goal.loop-k-preserved
loop-k-preserved c = record {
  none = λ j. ap (λ rows. slice_index_or rows j None) c.in_ok-push.ensures.items ∙ none-more c.loop-k.rows.items j ∙ c.loop-k.invariant.none j;
  count = omega (arith, ap length c.in_ok-push.ensures.items, length-append c.loop-k.rows.items (None ∷ []), c.loop-k.invariant.count);
}
