use Rattle.std.proofs.Common.{◌∙◌, ◌&&◌, length, take, sym, ap, subst}
use Rattle.homology.specs.Parity.{xor}
use Rattle.homology.specs.Sets.{plus, image}
use Rattle.homology.proofs.ParityLaws.{and-false}
use Rattle.homology.proofs.SetLaws.{image-empty, plus-empty}
use Rattle.elimination.specs.Rows.{entry, entries_at}
use Rattle.elimination.specs.Reductions.{IsKept, after, givens, rest_of}
use Rattle.elimination.proofs.RestLaws.{rest-take, sum-step}
use Rattle.elimination.proofs.reduction.reduce.Goals as goal

pub loop-k-init : goal.loop-k-init
loop-k-init c =
    let row = c.args.row.now in
    let n = length row in
    let φ = entries_at (givens c.args.kept.now) in
    record {
      rest = ap entry c.in_ok-rest.ensures;
      sum =
          ap (λ t. plus (entry row) (image n φ t)) c.in_ok-terms.ensures.zeros
          ∙ ap (plus (entry row)) (image-empty n φ)
          ∙ plus-empty (entry row)
          ∙ sym (ap entry c.in_ok-rest.ensures);
      few = λ j le. ap (λ z. z j) c.in_ok-terms.ensures.zeros;
      rest_width = ap length c.in_ok-rest.ensures;
      terms_width = c.in_ok-terms.ensures.width ∙ c.width.ensures;
    }

pub loop-k-preserved : goal.loop-k-preserved
loop-k-preserved c =
    let row = c.args.row.now in
    let n = length row in
    let ks = c.args.kept.now in
    let i = c.loop-k.k-index in
    let k = c.k-item.result in
    let v = entry c.loop-k.rest in
    let t = entry c.loop-k.terms in
    let inv = c.loop-k.invariant in
    let K : IsKept n (givens ks) (length ks) k = subst (IsKept n (givens ks) (length ks)) (sym c.k-item.is) (c.requires i k c.loop-k-test.true) in
    record {
      rest =
          c.add_kept.ensures.rest
          ∙ ap (λ u. after u k) inv.rest
          ∙ ap (after (rest_of (entry row) (take i ks))) c.k-item.is
          ∙ sym (rest-take ks i k (entry row) c.loop-k-test.true);
      sum =
          sum-step n (entries_at (givens ks)) (entry row) t v (entry c.add_kept.new.terms) (entry c.add_kept.new.rest) (entry k.terms) (entry k.reduced) (v k.lead)
          inv.sum K.sound c.add_kept.ensures.terms c.add_kept.ensures.rest;
      few = λ j le. ap (λ z. z j) c.add_kept.ensures.terms ∙ (λ s. xor (inv.few j le s) (v k.lead && K.few j le s)) ∙ and-false (v k.lead);
      rest_width = c.add_kept.ensures.rest_width ∙ inv.rest_width;
      terms_width = c.add_kept.ensures.terms_width ∙ inv.terms_width;
    }
