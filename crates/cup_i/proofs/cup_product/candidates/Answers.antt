use Rattle.std.proofs.Common.{◌≡◌, ◌+◌, ◌-◌, sym, ◌∙◌, arith}
use Rattle.homology.specs.Sets.{empty, set_of}
use Rattle.homology.proofs.SetLaws.{same_members}
use Rattle.products.specs.Products.{cup}
use Rattle.products.proofs.CoboundaryLaw.{cup-outside}
use Rattle.cup_i.proofs.DegreeLaws.{cup-first, cup-second, cup-nowhere}
use Rattle.cup_i.proofs.cup_product.candidates.Goals as goal
use Rattle.cup_i.proofs.cup_product.candidates.Goals.{then-len-eq0-via-then-len-eq0, then-len-eq0-via-else-len-eq0+then-i-p, then-len-eq0-via-else-len-eq0+else-i-p+then-i-q}

pub returns-then-len-eq0-clause-none : goal.returns-then-len-eq0-clause-none
returns-then-len-eq0-clause-none c =
    let K = c.args.k.now in
    let a = c.args.a.now in
    let b = c.args.b.now in
    let none : cup K c.args.i (set_of a.ids) (set_of b.ids) ≡ empty = elim c.then-len-eq0.branch [
      | then-len-eq0-via-then-len-eq0 w ↦ same_members (cup K c.args.i (set_of a.ids) (set_of b.ids)) empty
          (λ x. cup-outside K c.args.i (set_of a.ids) (set_of b.ids) x (omega (arith, w.if-len-eq0.true, c.len.ensures.count)))
      | then-len-eq0-via-else-len-eq0+then-i-p w ↦ cup-first K c.len.ensures.complex c.args.i a.degree b.degree (set_of a.ids) (set_of b.ids)
          c.requires.first c.requires.second (omega (arith, w.if-i-p.true, c.degree-p.ensures))
      | then-len-eq0-via-else-len-eq0+else-i-p+then-i-q w ↦ cup-second K c.len.ensures.complex c.args.i a.degree b.degree (set_of a.ids) (set_of b.ids)
          c.requires.first c.requires.second (omega (arith, w.if-i-q.true, c.degree-q.ensures))
    ] in
    λ _. none

pub returns-clause-none : goal.returns-clause-none
returns-clause-none c =
    let K = c.args.k.now in
    let a = c.args.a.now in
    let b = c.args.b.now in
    λ e. cup-nowhere K c.len.ensures.complex c.args.i a.degree b.degree (set_of a.ids) (set_of b.ids) c.requires.first c.requires.second
    (c.degree-p.result + c.degree-q.result - c.args.i) (λ i. c.degree-p.ensures i + c.degree-q.ensures i - c.args.i) (sym c.count.ensures ∙ e)
