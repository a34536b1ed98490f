use Rattle.std.specs.Prelude.{◌≡◌, map}
use Rattle.std.specs.List.{range_with_len}
use Rattle.characteristic_classes.specs.WuClasses.{whitney_class}
use Rattle.wu_classes.specs.Values.{words_of}
use Rattle.wu_classes.proofs.whitney.whitney_classes.Given as goal

abbrev pub invariant-loop-k : goal.invariant-loop-k
invariant-loop-k l = words_of l.words.items ≡ map (λ k. (k, whitney_class l.m k)) (range_with_len 0 l.k)
