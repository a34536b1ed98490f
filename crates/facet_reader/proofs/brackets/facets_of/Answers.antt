use Rattle.std.proofs.Common.{◌≡◌, ◌==◌, [], ◌∷◌, None, false, map, sym, ap, ◌∙◌, rules, tests}
use Rattle.std.specs.Option.{is_none}
use Rattle.std.proofs.lemmas.Iterator.{YieldsList-from_take}
use Rattle.std.proofs.lemmas.Iterator.Consumers.{YieldsList-end}
use Rattle.std.proofs.lemmas.Iterator.Splits.{YieldsList-from_slice_split}
use Rattle.std.proofs.lemmas.List.{map-append}
use Rattle.language.specs.Brackets.{facets_word}
use Rattle.facet_reader.specs.Lists.{facet_of, next_mark}
use Rattle.facet_reader.proofs.Bracketing.{facets-taken, facets-kept, facets-refused, mark-more}
use Rattle.facet_reader.proofs.brackets.facets_of.Goals as goal

pub loop-part-preserved-in-Ok-push : goal.loop-part-preserved-in-Ok-push
loop-part-preserved-in-Ok-push c =
    let before = map (λ x. x.now) c.loop-part.yielded in
    let behind = map-append (λ x. x.now) c.loop-part.yielded (c.in-Some.part ∷ []) in
    let none : c.loop-part.fault ≡ None = search (rules, tests) in
    let read = ap (λ m. facet_of m c.in-Some.part.now) (sym c.loop-part.invariant.mark) ∙ c.in-Ok.ensures in
    record {
      read = rw (none, c.in-Ok-push.ensures.items) (ap facets_word behind ∙ facets-taken before c.in-Some.part.now c.in-Ok.facet c.loop-part.facets.items (rw none at c.loop-part.invariant.read) read);
      mark = mark-more before c.in-Some.part.now ∙ ap next_mark (sym behind);
    }

pub loop-part-preserved-else-is_none : goal.loop-part-preserved-else-is_none
loop-part-preserved-else-is_none c =
    let before = map (λ x. x.now) c.loop-part.yielded in
    let behind = map-append (λ x. x.now) c.loop-part.yielded (c.in-Some.part ∷ []) in
    let some : is_none c.loop-part.fault ≡ false = search (rules, tests) in
    let read = ap (λ m. facet_of m c.in-Some.part.now) (sym c.loop-part.invariant.mark) ∙ c.in-Ok.ensures in
    record {
      read = ap facets_word behind ∙ facets-kept before c.in-Some.part.now c.in-Ok.facet c.loop-part.fault c.loop-part.facets.items some c.loop-part.invariant.read read;
      mark = mark-more before c.in-Some.part.now ∙ ap next_mark (sym behind);
    }

pub loop-part-preserved : goal.loop-part-preserved
loop-part-preserved c =
    let before = map (λ x. x.now) c.loop-part.yielded in
    let behind = map-append (λ x. x.now) c.loop-part.yielded (c.in-Some.part ∷ []) in
    let read = ap (λ m. facet_of m c.in-Some.part.now) (sym c.loop-part.invariant.mark) ∙ c.in-Err.ensures in
    record {
      read = rw c.graver.ensures (ap facets_word behind ∙ facets-refused before c.in-Some.part.now c.loop-part.fault c.loop-part.facets.items c.in-Err.kind c.loop-part.invariant.read read);
      mark = mark-more before c.in-Some.part.now ∙ ap next_mark (sym behind);
    }

pub returns-in-Some-fault : goal.returns-in-Some-fault
returns-in-Some-fault c =
    let whole = YieldsList-end (YieldsList-from_take c.args.count (YieldsList-from_slice_split _ (λ x. x == 93) c.args.list.now (cc) (cc) (cc) (λ x r q k. search (rules, tests))) (cc)) c.loop-part.yielded _ c.loop-part.yielded_by _ _ c.in-None.is c.next.ensures.steps in
    rw c.in-Some-fault.is at (ap facets_word (sym whole.0) ∙ c.loop-part.invariant.read)

pub returns-in-None-fault : goal.returns-in-None-fault
returns-in-None-fault c =
    let whole = YieldsList-end (YieldsList-from_take c.args.count (YieldsList-from_slice_split _ (λ x. x == 93) c.args.list.now (cc) (cc) (cc) (λ x r q k. search (rules, tests))) (cc)) c.loop-part.yielded _ c.loop-part.yielded_by _ _ c.in-None.is c.next.ensures.steps in
    rw c.in-None-fault.is at (ap facets_word (sym whole.0) ∙ c.loop-part.invariant.read)
