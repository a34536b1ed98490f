use Rattle.std.proofs.Common.{◌≡◌, ◌<◌, ℕ, [], length, ap, sym, ◌∙◌, rules, tests}
use Rattle.language.specs.Arguments.{number_word}
use Rattle.language.specs.Grammar.{more}
use Rattle.facet_reader.proofs.ManyLaws.{more-bad, all-read, all-bad, all-missing}
use Rattle.facet_reader.proofs.words.Words.parts.Goals as goal

pub returns-in-Err-clause-value : goal.returns-in-Err-clause-value
returns-in-Err-clause-value c =
    rw c.bad.ensures (all-bad {A = ℕ} (λ _. number_word 1 99) c.args.self.now _ (sym c.loop-word.invariant.rest ∙ more-bad (λ _. number_word 1 99) c.loop-word.parts.items c.loop-word.self.words c.next_word.new.self.words (record { column = c.in-Some.word.column; bytes = c.in-Some.word.bytes.now }) c.in-Err.kind c.in-Some.ensures.word c.in-Err.ensures.value))

pub returns-then-is_empty-clause-value : goal.returns-then-is_empty-clause-value
returns-then-is_empty-clause-value c =
    let none : c.loop-word.self.words ≡ [] = search (rules, tests) in
    let empty : length c.loop-word.parts.items ≡ 0 = search (rules, tests) in
    let line : c.next_word.new.self.line ≡ c.args.self.now.line = c.next_word.ensures.line ∙ c.loop-word.invariant.line in
    rw (c.missing.ensures, line) (all-missing {A = ℕ} (λ _. number_word 1 99) c.args.self.now (sym (c.loop-word.invariant.started empty) ∙ none))

pub returns-clause-value : goal.returns-clause-value
returns-clause-value c =
    let none : c.loop-word.self.words ≡ [] = search (rules, tests) in
    let some : 0 < length c.loop-word.parts.items = search (rules, tests) in
    all-read (λ _. number_word 1 99) c.args.self.now c.loop-word.parts.items (sym c.loop-word.invariant.rest ∙ ap (more (λ _. number_word 1 99) c.loop-word.parts.items) none) some
