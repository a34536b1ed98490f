-- The facets of the parts that came, or their fault; and the byte before the next part.
use Rattle.std.proofs.Common.{◌≡◌, map}
use Rattle.language.specs.Brackets.{facets_word}
use Rattle.facet_reader.specs.Lists.{told, next_mark}
use Rattle.facet_reader.proofs.brackets.facets_of.Given as goal

abbrev pub invariant-loop-part : goal.invariant-loop-part
invariant-loop-part l = record {
  read : facets_word (map (λ x. x.now) l.yielded) ≡ told l.fault l.facets.items;
  mark : l.mark ≡ next_mark (map (λ x. x.now) l.yielded);
}
