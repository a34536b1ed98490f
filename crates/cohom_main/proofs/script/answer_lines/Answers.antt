-- Where the source tells its bytes, each line is one more of the midst, or its end.
use Rattle.std.proofs.Common.{[], ◌++◌, length, length-append, refl, sym, ap, ◌∙◌, arith}
use Rattle.cohom_edge.specs.Readings.{reading_of}
use Rattle.transcript.specs.Steps.{start}
use Rattle.transcript.specs.Transcripts.{after_line, looks_of_line}
use Rattle.cohom_main.specs.Ends.{Says, how_of}
use Rattle.session_core.specs.declared.ends.How.TheVariants.{Quit}
use Rattle.cohom_main.proofs.Midst.{InMidst, InMidst-start, InMidst-step, few_looks, on-told, still-told}
use Rattle.cohom_main.proofs.Endings.{quit_whole, fault_part, ended-answers, line-gave, line-going}
use Rattle.cohom_main.proofs.script.answer_lines.Goals as goal

pub lines-init : goal.lines-init
lines-init g c =
    let left = g.S.Source.left c.args.source.now in
    let faults = g.S.Source.faults c.args.source.now in
    let held = g.K.Sink.held c.args.sink.now in
    record {
      midst = rw (c.new-looks.ensures, c.requires.callers, c.requires.reader) (on-told left (λ b. InMidst b held held start [] (reading_of left faults _)) (λ b e. InMidst-start b held left faults e));
      few = omega (arith, ap length c.new-looks.ensures);
      calm_source = refl;
      calm_sink = refl;
      going = ap (λ r. r.stopped) c.requires.reader;
    }

pub lines-preserved : goal.lines-preserved
lines-preserved g c =
    let told = g.S.Source.left c.args.source.now in
    let old = g.K.Sink.held c.args.sink.now in
    let now = g.K.Sink.held c.lines.sink in
    let sink = g.K.Sink.held c.answer_line.new.sink in
    let st = c.lines.callers in
    let looked = c.lines.looks.lengths in
    let r = reading_of (g.S.Source.left c.lines.source) (g.S.Source.faults c.lines.source) c.lines.reader in
    let new = reading_of (g.S.Source.left c.next_line.new.source) (g.S.Source.faults c.next_line.new.source) c.next_line.new.self in
    let none = sym c.end_at.ensures ∙ c.in_default.is in
    let gave = line-gave c.next_line.result r new none c.next_line.ensures.answer in
    let done = c.in-Ok-false.ensures in
    let said = rw c.line.ensures at done.whole in
    let other = sym (rw c.line.ensures at done.quit) ∙ c.in-Ok-false.field-0-test in
    record {
      midst = rw (done.after, done.looked, c.line.ensures) (still-told told (λ b. InMidst b old now st looked r)
          (λ b. InMidst b old sink (after_line st c.next_line.new.self.line) (looked ++ looks_of_line st c.next_line.new.self.line) new) c.lines.invariant.midst
          (λ b m. InMidst-step b old now sink st looked r new m gave other said));
      few = omega (arith, c.lines.invariant.few, gave.given, ap length done.looked, length-append looked (looks_of_line st c.line.result.now), few_looks st c.line.result.now);
      calm_source = gave.calm ∙ c.lines.invariant.calm_source;
      calm_sink = done.calm ∙ c.lines.invariant.calm_sink;
      going = c.next_line.ensures.stays ∙ line-going c.next_line.result none;
    }

pub returns-in-Some-clause-transcript : goal.returns-in-Some-clause-transcript
returns-in-Some-clause-transcript g c =
    let told = g.S.Source.left c.args.source.now in
    let old = g.K.Sink.held c.args.sink.now in
    let now = g.K.Sink.held c.lines.sink in
    let st = c.lines.callers in
    let looked = c.lines.looks.lengths in
    let r = reading_of (g.S.Source.left c.lines.source) (g.S.Source.faults c.lines.source) c.lines.reader in
    let new = reading_of (g.S.Source.left c.next_line.new.source) (g.S.Source.faults c.next_line.new.source) c.next_line.new.self in
    rw (c.end.ensures.how, c.end.ensures.looks, c.end.ensures.lines) (still-told told (λ b. InMidst b old now st looked r) (λ b. Says b new.left old now c.in-Some.how looked new.given) c.lines.invariant.midst
    (λ b m. ended-answers c.next_line.result c.in-Some.how b old now st looked r new (sym c.end_at.ensures ∙ c.in-Some.is) c.next_line.ensures.answer m))

pub returns-in-Ok-true-clause-transcript : goal.returns-in-Ok-true-clause-transcript
returns-in-Ok-true-clause-transcript g c =
    let told = g.S.Source.left c.args.source.now in
    let old = g.K.Sink.held c.args.sink.now in
    let now = g.K.Sink.held c.lines.sink in
    let sink = g.K.Sink.held c.answer_line.new.sink in
    let st = c.lines.callers in
    let looked = c.lines.looks.lengths in
    let r = reading_of (g.S.Source.left c.lines.source) (g.S.Source.faults c.lines.source) c.lines.reader in
    let new = reading_of (g.S.Source.left c.next_line.new.source) (g.S.Source.faults c.next_line.new.source) c.next_line.new.self in
    let gave = line-gave c.next_line.result r new (sym c.end_at.ensures ∙ c.in_default.is) c.next_line.ensures.answer in
    let done = c.in-Ok-true.ensures in
    let said = rw c.line.ensures at done.whole in
    let quit = sym (rw c.line.ensures at done.quit) ∙ c.in-Ok-true.field-0-test in
    rw (c.end-in-Ok-true.ensures.how, c.end-in-Ok-true.ensures.looks, c.end-in-Ok-true.ensures.lines, done.looked, c.line.ensures) (still-told told (λ b. InMidst b old now st looked r) (λ b. Says b new.left old sink Quit (looked ++ looks_of_line st new.line) new.given) c.lines.invariant.midst
    (λ b m. quit_whole b old now sink st looked r new m gave quit said))

pub returns-in-Err-clause-transcript : goal.returns-in-Err-clause-transcript
returns-in-Err-clause-transcript g c =
    let told = g.S.Source.left c.args.source.now in
    let old = g.K.Sink.held c.args.sink.now in
    let now = g.K.Sink.held c.lines.sink in
    let sink = g.K.Sink.held c.answer_line.new.sink in
    let st = c.lines.callers in
    let looked = c.lines.looks.lengths in
    let r = reading_of (g.S.Source.left c.lines.source) (g.S.Source.faults c.lines.source) c.lines.reader in
    let new = reading_of (g.S.Source.left c.next_line.new.source) (g.S.Source.faults c.next_line.new.source) c.next_line.new.self in
    let gave = line-gave c.next_line.result r new (sym c.end_at.ensures ∙ c.in_default.is) c.next_line.ensures.answer in
    let part = rw c.line.ensures at c.in-Err.ensures.part in
    rw (c.end-in-Err.ensures.how, c.end-in-Err.ensures.lines, c.how_of.ensures) (still-told told (λ b. InMidst b old now st looked r) (λ b. Says b new.left old sink (how_of c.in-Err.fault) _ new.given) c.lines.invariant.midst
    (λ b m. fault_part b old now sink st looked r new c.in-Err.fault m gave part new.left _))
