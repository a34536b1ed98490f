use Rattle.std.proofs.Common.{◌≡◌, ◌<◌, [], length, Ok, Err, ap, sym, ◌∙◌, arith, rules, tests}
use Rattle.std.proofs.lemmas.List.{length_push}
use Rattle.language.specs.Arguments.{vertex_word, most}
use Rattle.language.specs.Grammar.{more}
use Rattle.facet_reader.proofs.ManyLaws.{more-one, more-bad, all-read, all-bad, all-missing, distinct_more}
use Rattle.facet_reader.proofs.words.Words.vertices.Goals as goal

pub loop-word-preserved : goal.loop-word-preserved
loop-word-preserved c =
    let here : vertex_word c.loop-word.vertices.items c.in-Some.word.bytes.now ≡ Ok c.in-Ok.vertex = rw (← c.as_slice.ensures.value) c.in-Ok.ensures.value in
    let step = more-one vertex_word c.loop-word.vertices.items c.loop-word.self.words c.next_word.new.self.words (record { column = c.in-Some.word.column; bytes = c.in-Some.word.bytes.now }) c.in-Ok.vertex c.in-Some.ensures.word here in
    let long = length_push c.loop-word.vertices.items c.in-Ok.vertex in
    let room : length c.loop-word.vertices.items < most = rw (← c.as_slice.ensures.value) c.in-Ok.ensures.room in
    let fresh = rw c.as_slice.ensures.value at c.in-Ok.ensures.fresh in
    rw c.push.ensures.items (record {
      rest = sym step ∙ c.loop-word.invariant.rest;
      started = λ none. absurd (omega arith);
      line = c.in-Some.ensures.line ∙ c.loop-word.invariant.line;
      narrow = omega arith;
      distinct = distinct_more c.loop-word.vertices.items c.in-Ok.vertex c.loop-word.invariant.distinct fresh;
    })

pub returns-in-Err-clause-value : goal.returns-in-Err-clause-value
returns-in-Err-clause-value c =
    let here : vertex_word c.loop-word.vertices.items c.in-Some.word.bytes.now ≡ Err c.in-Err.kind = rw (← c.as_slice.ensures.value) c.in-Err.ensures.value in
    rw c.bad.ensures (all-bad vertex_word c.args.self.now _ (sym c.loop-word.invariant.rest ∙ more-bad vertex_word c.loop-word.vertices.items c.loop-word.self.words c.next_word.new.self.words (record { column = c.in-Some.word.column; bytes = c.in-Some.word.bytes.now }) c.in-Err.kind c.in-Some.ensures.word here))

pub returns-then-is_empty-clause-value : goal.returns-then-is_empty-clause-value
returns-then-is_empty-clause-value c =
    let none : c.loop-word.self.words ≡ [] = search (rules, tests) in
    let empty : length c.loop-word.vertices.items ≡ 0 = search (rules, tests) in
    let line : c.next_word.new.self.line ≡ c.args.self.now.line = c.next_word.ensures.line ∙ c.loop-word.invariant.line in
    rw (c.missing.ensures, line) (all-missing vertex_word c.args.self.now (sym (c.loop-word.invariant.started empty) ∙ none))

pub returns-clause-value : goal.returns-clause-value
returns-clause-value c =
    let none : c.loop-word.self.words ≡ [] = search (rules, tests) in
    let some : 0 < length c.loop-word.vertices.items = search (rules, tests) in
    all-read vertex_word c.args.self.now c.loop-word.vertices.items (sym c.loop-word.invariant.rest ∙ ap (more vertex_word c.loop-word.vertices.items) none) some
