use Rattle.std.proofs.Common.{sym, ap, ◌∙◌, take}
use Rattle.std.specs.Prelude.{slice_index}
use Rattle.homology.specs.Sets.{plus, set_of, single}
use Rattle.homology.specs.ListSums.{sum_over}
use Rattle.homology.proofs.SetLaws.{plus-assoc, plus-empty}
use Rattle.homology.proofs.ListSumLaws.{sum_over-take_more}
use Rattle.wu_classes.proofs.face_sums.toggle_all.Goals as goal

pub loop-id-init : goal.loop-id-init
loop-id-init c = sym (plus-empty (set_of c.args.chain.now))

pub loop-id-preserved : goal.loop-id-preserved
loop-id-preserved c =
    let ids = c.args.ids.now in
    let i = c.loop-id.id-index in
    let old = set_of c.args.chain.now in
    c.in_ok-toggle.ensures.toggled
    ∙ ap (λ z. plus z (single (slice_index ids i))) c.loop-id.invariant
    ∙ plus-assoc old (sum_over (take i ids) single) (single (slice_index ids i))
    ∙ ap (plus old) (sym (sum_over-take_more ids i single c.loop-id-test.true))
