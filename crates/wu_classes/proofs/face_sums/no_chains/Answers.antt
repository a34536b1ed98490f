use Rattle.std.proofs.Common.{◌∷◌, ◌++◌, [], length, length-append, ap, ◌∙◌, arith}
use Rattle.std.specs.Prelude.{slice_index_or}
use Rattle.class_cache.proofs.ListedChains.{chains-none}
use Rattle.wu_classes.proofs.face_sums.no_chains.Goals as goal

pub loop-k-preserved : goal.loop-k-preserved
loop-k-preserved c = record {
  empty = λ h.
      ap (λ sums. slice_index_or sums h []) (c.in_ok-push.ensures.items ∙ ap (λ e. c.loop-k.sums.items ++ e ∷ []) c.new.ensures)
      ∙ chains-none c.loop-k.sums.items h
      ∙ c.loop-k.invariant.empty h;
  count = omega (arith, ap length c.in_ok-push.ensures.items, length-append c.loop-k.sums.items (c.new.result ∷ []), c.loop-k.invariant.count);
}
