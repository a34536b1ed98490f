use Rattle.std.proofs.Common.{◌==◌, [], ◌∷◌, map, sym, ap, ◌∙◌, rules, tests}
use Rattle.std.proofs.lemmas.Iterator.Consumers.{YieldsList-end}
use Rattle.std.proofs.lemmas.Iterator.Splits.{YieldsList-from_slice_split}
use Rattle.std.proofs.lemmas.List.{map-append}
use Rattle.facet_reader.specs.Lists.{numbers_of}
use Rattle.facet_reader.proofs.Bracketing.{numbers-refused}
use Rattle.facet_reader.proofs.brackets.numbers.Goals as goal

pub loop-word-preserved : goal.loop-word-preserved
loop-word-preserved c =
    let behind = map-append (λ x. x.now) c.loop-word.yielded (c.in-Some.word ∷ []) in
    rw c.graver.ensures (ap numbers_of behind ∙ numbers-refused (map (λ x. x.now) c.loop-word.yielded) c.in-Some.word.now c.loop-word.fault c.loop-word.numbers.items c.in-Err.kind c.loop-word.invariant c.in-Err.ensures)

pub returns-in-Some-fault : goal.returns-in-Some-fault
returns-in-Some-fault c =
    let whole = YieldsList-end (YieldsList-from_slice_split _ (λ x. x == 44) c.args.words.now (cc) (cc) (cc) (λ x r q k. search (rules, tests))) c.loop-word.yielded _ c.loop-word.yielded_by _ _ c.in-None.is c.next.ensures.steps in
    rw c.in-Some-fault.is at (ap numbers_of (sym whole.0) ∙ c.loop-word.invariant)

pub returns-in-None-fault : goal.returns-in-None-fault
returns-in-None-fault c =
    let whole = YieldsList-end (YieldsList-from_slice_split _ (λ x. x == 44) c.args.words.now (cc) (cc) (cc) (λ x r q k. search (rules, tests))) c.loop-word.yielded _ c.loop-word.yielded_by _ _ c.in-None.is c.next.ensures.steps in
    rw c.in-None-fault.is at (ap numbers_of (sym whole.0) ∙ c.loop-word.invariant)
