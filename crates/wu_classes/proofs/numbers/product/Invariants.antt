use Rattle.std.specs.Prelude.{◌≡◌, drop, sum}
use Rattle.homology.specs.Sets.{set_of}
use Rattle.characteristic_classes.specs.WuClasses.{product}
use Rattle.cochain_values.specs.Cochains.{StandsOn}
use Rattle.wu_classes.proofs.numbers.product.Given as goal

abbrev pub invariant-loop-k : goal.invariant-loop-k
invariant-loop-k l = record {
  degree : l.product.degree ≡ sum (drop l.k l.parts);
  set : set_of l.product.ids ≡ product l.m (drop l.k l.parts);
  stands : StandsOn l.m l.product;
}
