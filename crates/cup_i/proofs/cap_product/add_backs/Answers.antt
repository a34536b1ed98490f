use Rattle.std.proofs.Common.{◌≡◌, length, sym, ap, ◌∙◌}
use Rattle.std.specs.Prelude.{slice_index}
use Rattle.std.proofs.lemmas.List.{take_all}
use Rattle.homology.specs.Sets.{plus}
use Rattle.homology.specs.ListSums.{sum_over}
use Rattle.homology.proofs.SetLaws.{plus-empty}
use Rattle.cochain_values.specs.Marks.{marked}
use Rattle.cochain_values.proofs.MarkLaws.{sum-more}
use Rattle.cup_i.specs.Backs.{back_of}
use Rattle.cup_i.proofs.BackLaws.{back_of-some, back_of-none}
use Rattle.cup_i.proofs.cap_product.add_backs.Goals as goal
use Rattle.cup_i.proofs.cap_product.add_backs.Goals.{in-Some, in_default}

pub loop-id-preserved : goal.loop-id-preserved
loop-id-preserved c =
    let K = c.args.k.now in
    let p = c.args.factor.now.degree in
    let a = marked c.args.factor.now.marks.items in
    let ids = c.args.ids.now in
    let t = slice_index ids c.loop-id.id-index in
    let step : marked c.match-back_face.sum ≡ plus (marked c.loop-id.sum) (back_of K p a t) =
    elim c.match-back_face.branch [
      | in-Some w ↦
          ap marked w.sum-is ∙ w.toggle.ensures.set
          ∙ ap (plus (marked c.loop-id.sum))
          (sym (back_of-some K c.requires.factor.complex p a t w.in-Some.back w.in-Some.ensures.0 w.in-Some.ensures.1 w.in-Some.ensures.2))
      | in_default w ↦
          ap marked w.sum-is ∙ sym (plus-empty (marked c.loop-id.sum))
          ∙ ap (plus (marked c.loop-id.sum)) (sym (back_of-none K p a t w.in_default.ensures))
    ] in
    let fits : length c.match-back_face.sum ≡ length c.loop-id.sum =
    elim c.match-back_face.branch [
      | in-Some w ↦ ap length w.sum-is ∙ w.toggle.ensures.fits
      | in_default w ↦ ap length w.sum-is
    ] in
    record {
      set = sum-more ids c.loop-id.id-index (back_of K p a) (marked c.args.sum.now) (marked c.loop-id.sum) (marked c.match-back_face.sum) c.loop-id-test.true c.loop-id.invariant.set step;
      fits = fits ∙ c.loop-id.invariant.fits;
    }

pub returns-clause-set : goal.returns-clause-set
returns-clause-set c =
    c.loop-id.invariant.set
    ∙ ap (λ l. plus (marked c.args.sum.now) (sum_over l (back_of c.args.k.now c.args.factor.now.degree (marked c.args.factor.now.marks.items))))
    (take_all c.loop-id.id-index c.args.ids.now c.loop-id-test.false)
