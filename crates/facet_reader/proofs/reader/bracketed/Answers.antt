use Rattle.std.proofs.Common.{◌-◌, Ok, sym, ap, ◌∙◌, drop}
use Rattle.language.specs.Language.{Facet}
use Rattle.facet_reader.proofs.ReadingLaws.{brackets-made, brackets-refused}
use Rattle.facet_reader.proofs.reader.bracketed.Goals as goal

pub returns-in-Ok : goal.returns-in-Ok
returns-in-Ok c =
    brackets-made c.args.words.now (record { column = c.in_ok-word.word.column; bytes = c.in_ok-word.word.bytes.now }) c.word.new.self.words c.line_from.result.now c.in-Ok.facets.items c.requires c.in_ok-word.ensures.word
    (c.line_from.ensures ∙ ap (drop (c.in_ok-word.word.column - 1)) c.in_ok-word.ensures.line) c.in-Ok.ensures
    ∙ ap (λ F. Ok (Facet F)) (sym c.new.ensures)

pub returns-in-Err : goal.returns-in-Err
returns-in-Err c =
    brackets-refused c.args.words.now (record { column = c.in_ok-word.word.column; bytes = c.in_ok-word.word.bytes.now }) c.word.new.self.words c.line_from.result.now c.in-Err.refusal c.refused.result c.requires c.in_ok-word.ensures.word
    (c.line_from.ensures ∙ ap (drop (c.in_ok-word.word.column - 1)) c.in_ok-word.ensures.line) c.in-Err.ensures c.refused.ensures
