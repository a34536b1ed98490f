use Rattle.std.proofs.Common.{◌≡◌, ◌+◌, ◌<◌, ◌≤◌, [], length}
use Rattle.std.specs.List.{All}
use Rattle.language.specs.Arguments.{number_word}
use Rattle.language.specs.Grammar.{more}
use Rattle.facet_reader.proofs.words.Words.parts.Given as goal

abbrev pub invariant-loop-word : goal.invariant-loop-word
invariant-loop-word l = record {
  rest : more (λ _. number_word 1 99) l.parts.items l.self.words ≡ more (λ _. number_word 1 99) [] l.fn.self.words;
  started : length l.parts.items ≡ 0 → l.self.words ≡ l.fn.self.words;
  line : l.self.line ≡ l.fn.self.line;
  few : 0 < length l.parts.items → length l.parts.items + length l.self.words ≤ 1048575;
  degrees : All (λ k. (0 < k) × (k ≤ 99)) l.parts.items;
}

abbrev pub decreases-loop-word : goal.decreases-loop-word
decreases-loop-word l = length l.self.words
