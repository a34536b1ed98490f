use Rattle.std.proofs.Common.{◌≡◌, ◌++◌, ◌∷◌, take}
use Rattle.std.specs.List.{flat_map}
use Rattle.transcript.specs.Values.{simplex_text}
use Rattle.reply_text.proofs.simplex_text.marked_simplices.Given as goal

abbrev pub invariant-loop-s : goal.invariant-loop-s
invariant-loop-s l =
    l.out.items ≡ l.initial.out.items ++ flat_map (λ s. l.mark ∷ simplex_text s) (take l.s-index l.simplices)
