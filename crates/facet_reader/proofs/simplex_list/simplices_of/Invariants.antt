use Rattle.std.proofs.Common.{◌≡◌, true, map}
use Rattle.std.specs.List.{list_all}
use Rattle.language.specs.Arguments.{in_order, vertices}
use Rattle.facet_reader.specs.Lists.{is_simple}
use Rattle.facet_reader.proofs.simplex_list.simplices_of.Given as goal

abbrev pub invariant-loop-word : goal.invariant-loop-word
invariant-loop-word l = record {
  made : l.simplices.items ≡ map (λ s. in_order (vertices s)) (map (λ x. x.now) l.yielded);
  simple : list_all is_simple (map (λ x. x.now) l.yielded) ≡ true;
}
