use Rattle.std.proofs.Common.{◌≡◌, ◌+◌, List, ℕ, false, ap, ◌∙◌, arith}
use Rattle.std.proofs.lemmas.List.{get_or_past}
use Rattle.homology.specs.Sets.{set_of}
use Rattle.cochain_values.specs.Marks.{marked, IsListed}
use Rattle.cochain_values.proofs.MarkLaws.{below-all, listed-in, listed-out, if_ok-map}
use Rattle.cochain_values.proofs.marks.chain_of.Goals as goal
use Rattle.cochain_values.proofs.marks.chain_of.Goals.{then-mark+in_ok-push, else-mark}

pub loop-id-preserved : goal.loop-id-preserved
loop-id-preserved c =
    let a = marked c.args.marks.now in
    let n = c.loop-id.id in
    elim c.if-mark.branch as (λ _. IsListed a (n + 1) c.if-mark.ids.items) [
      | then-mark+in_ok-push w ↦
          listed-in n a c.loop-id.ids.items c.if-mark.ids.items c.loop-id.invariant ((λ i. (w.ids-is i).items) ∙ w.in_ok-push.ensures.items) w.if-mark.true
      | else-mark w ↦ listed-out n a c.loop-id.ids.items c.if-mark.ids.items c.loop-id.invariant (λ i. (w.ids-is i).items) w.if-mark.false
    ]

pub returns : goal.returns
returns c =
    let a = marked c.args.marks.now in
    let all : set_of c.deref.result.now ≡ a =
    ap set_of c.deref.ensures.value
    ∙ c.loop-id.invariant.set
    ∙ below-all c.loop-id.id a (λ q h. get_or_past c.args.marks.now q false (omega (arith, h, c.loop-id-test.false))) in
    if_ok-map (λ (d : List ℕ). d ≡ c.deref.result.now) (λ (d : List ℕ). set_of d ≡ a) c.from_ascending.result (λ d e. ap set_of e ∙ all) c.from_ascending.ensures
