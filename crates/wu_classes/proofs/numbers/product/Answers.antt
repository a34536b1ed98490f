use Rattle.std.proofs.Common.{◌≡◌, ◌+◌, ◌-◌, ◌<◌, length, sym, ◌∙◌, subst, arith}
use Rattle.std.specs.Prelude.{slice_index}
use Rattle.homology.specs.Sets.{set_of}
use Rattle.homology.specs.Complexes.{Complex}
use Rattle.homology.specs.Chains.{IsChain}
use Rattle.products.specs.Products.{cup}
use Rattle.characteristic_classes.specs.WuClasses.{whitney_class}
use Rattle.wu_classes.specs.Duals.{IsCocycleOf}
use Rattle.wu_classes.proofs.Lists.{product-more, sum-more}
use Rattle.wu_classes.proofs.Sums.{sum-drop-le}
use Rattle.wu_classes.proofs.numbers.product.Goals as goal

pub cup_i-requires-clause-second_degree : goal.cup_i-requires-clause-second_degree
cup_i-requires-clause-second_degree c = omega (arith, c.loop-k.invariant.degree, sum-drop-le c.args.parts.now c.loop-k.k, c.requires.small)

pub loop-k-preserved : goal.loop-k-preserved
loop-k-preserved c =
    let K = c.args.m.now in
    let parts = c.args.parts.now in
    let k = c.loop-k.k in
    let i = k - 1 in
    let x = slice_index parts i in
    let w = c.index-whitney-parts-in-loop-k.result in
    let next : k ≡ i + 1 = omega arith in
    let lt : k < length parts = omega arith in
    let C : IsCocycleOf K x (whitney_class K x) w =
    subst (IsCocycleOf K x (whitney_class K x)) (sym c.index-whitney-parts-in-loop-k.is) (c.requires.whitney x w (c.requires.within i 0 (omega arith))) in
    let e = c.in_ok-product-2.ensures in
    record {
      degree = omega (arith, e.degree, C.degree, c.loop-k.invariant.degree, sum-more parts i k next lt);
      set =
          e.product
          ∙ (λ s. cup (c.complex-complex.ensures.same s) 0 (C.set s) (c.loop-k.invariant.set s))
          ∙ sym (product-more K parts i k next lt);
      stands = subst (λ (X : Complex). IsChain X c.in_ok-product-2.product.degree (set_of c.in_ok-product-2.product.ids)) c.complex-complex.ensures.same e.stands;
    }
