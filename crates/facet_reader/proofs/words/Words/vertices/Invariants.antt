use Rattle.std.proofs.Common.{◌≡◌, ◌≤◌, true, [], length}
use Rattle.language.specs.Arguments.{vertex_word, is_distinct, most}
use Rattle.language.specs.Grammar.{more}
use Rattle.facet_reader.proofs.words.Words.vertices.Given as goal

abbrev pub invariant-loop-word : goal.invariant-loop-word
invariant-loop-word l = record {
  rest : more vertex_word l.vertices.items l.self.words ≡ more vertex_word [] l.fn.self.words;
  started : length l.vertices.items ≡ 0 → l.self.words ≡ l.fn.self.words;
  line : l.self.line ≡ l.fn.self.line;
  narrow : length l.vertices.items ≤ most;
  distinct : is_distinct l.vertices.items ≡ true;
}

abbrev pub decreases-loop-word : goal.decreases-loop-word
decreases-loop-word l = length l.self.words
