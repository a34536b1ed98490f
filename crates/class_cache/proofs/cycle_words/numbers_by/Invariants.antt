use Rattle.std.specs.Prelude.{◌≡◌, ℕ, length}
use Rattle.homology.specs.Sets.{Ids, evaluate, set_of}
use Rattle.homology.specs.Contractions.{IsContraction}
use Rattle.class_solver.proofs.AlongPhi.{numbers_below}
use Rattle.class_cache.proofs.cycle_words.numbers_by.Given as goal

abbrev pub invariant-loop-k : goal.invariant-loop-k
invariant-loop-k l =
    (f g phi : ℕ → Ids) → IsContraction l.m f g phi → l.numbers.items ≡ numbers_below l.m l.a.degree (λ h. evaluate (length l.m) (set_of l.a.ids) (g h)) l.k
