use Rattle.std.proofs.Common.{◌≡◌, ◌++◌, ◌∷◌, take}
use Rattle.std.specs.List.{flat_map}
use Rattle.transcript.specs.Values.{class_text}
use Rattle.reply_text.proofs.answer_text.class_words.Given as goal

abbrev pub invariant-loop-word : goal.invariant-loop-word
invariant-loop-word l =
    l.out.items ≡ l.initial.out.items ++ flat_map (λ w. 32 ∷ class_text w.degree w.numbers.items) (take l.word-index l.words)
