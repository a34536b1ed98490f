use Rattle.std.proofs.Common.{◌∷◌, ◌++◌, [], length, length-append, ap, ◌∙◌, arith}
use Rattle.std.specs.Prelude.{slice_index_or}
use Rattle.class_cache.proofs.ListedChains.{chains-none}
use Rattle.class_keeping.proofs.table.no_chains.Goals as goal

pub loop-k-preserved : goal.loop-k-preserved
loop-k-preserved c = record {
  empty = λ h.
      ap (λ table. slice_index_or table h []) (c.in_ok-push.ensures.items ∙ ap (λ e. c.loop-k.table.items ++ e ∷ []) c.new.ensures)
      ∙ chains-none c.loop-k.table.items h
      ∙ c.loop-k.invariant.empty h;
  count = omega (arith, ap length c.in_ok-push.ensures.items, length-append c.loop-k.table.items (c.new.result ∷ []), c.loop-k.invariant.count);
}
