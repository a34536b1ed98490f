use Rattle.std.proofs.Common.{◌≡◌, ◌+◌, ◌++◌, ◌∷◌, [], Bool, true, false, cond, take, get_or, append-nil, append_assoc, sym, ap, ◌∙◌, arith}
use Rattle.std.specs.List.{filter}
use Rattle.std.proofs.lemmas.List.{take_all}
use Rattle.std.proofs.lemmas.List.Elements.{filter_more}
use Rattle.cup_i.specs.Above.{is_kept}
use Rattle.cup_i.proofs.above.push_kept.Goals as goal
use Rattle.cup_i.proofs.above.push_kept.Goals.{then-is_kept+in_ok-push, else-is_kept}

pub loop-coface-init : goal.loop-coface-init
loop-coface-init c = sym (append-nil c.args.next.now.items)

pub loop-coface-preserved : goal.loop-coface-preserved
loop-coface-preserved c =
    let p = is_kept c.args.k.now c.args.behind c.args.id in
    let old = c.args.next.now.items in
    let cofaces = c.args.cofaces.now in
    let i = c.loop-coface.coface-index in
    let x = get_or cofaces i 0 in
    let front = filter p (take i cofaces) in
    let more = filter_more p cofaces i 0 c.loop-coface-test.true in
    let more_by = λ (b : Bool) (e : p x ≡ b). ap (λ l. old ++ l) (more ∙ ap (λ z. front ++ cond z (x ∷ []) []) e) in
    elim c.if-is_kept.branch as (λ _. c.if-is_kept.next.items ≡ old ++ filter p (take (i + 1) cofaces)) [
      | then-is_kept+in_ok-push w ↦
          (λ j. (w.next-is j).items) ∙ w.in_ok-push.ensures.items ∙ ap (λ l. l ++ x ∷ []) c.loop-coface.invariant
          ∙ append_assoc old front (x ∷ [])
          ∙ sym (more_by true (sym c.is_kept.ensures ∙ w.if-is_kept.true))
      | else-is_kept w ↦
          (λ j. (w.next-is j).items) ∙ c.loop-coface.invariant ∙ ap (λ l. old ++ l) (sym (append-nil front))
          ∙ sym (more_by false (sym c.is_kept.ensures ∙ w.if-is_kept.false))
    ]

pub returns : goal.returns
returns c =
    c.loop-coface.invariant
    ∙ ap (λ l. c.args.next.now.items ++ filter (is_kept c.args.k.now c.args.behind c.args.id) l)
    (take_all c.loop-coface.coface-index c.args.cofaces.now (omega (arith, c.loop-coface-test.false)))
