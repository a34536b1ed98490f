use Rattle.std.proofs.Common.{◌≡◌, ◌+◌, ℕ, sym, ap, subst, ◌∙◌}
use Rattle.homology.specs.Sets.{Ids, set_of}
use Rattle.homology.specs.Complexes.{Complex}
use Rattle.homology.specs.Chains.{IsChain}
use Rattle.cohomology_operations.specs.Bocksteins.{bockstein}
use Rattle.cohomology_operations.specs.Squares.{square}
use Rattle.cohomology_operations.proofs.BocksteinLaws.{bockstein-cocycle, bockstein-square}
use Rattle.steenrod.proofs.squares.square_cochain_of_cocycle.Goals as goal

pub from_ids-requires : goal.from_ids-requires
from_ids-requires c =
    let K = c.args.m.now in
    let p = c.args.a.now.degree in
    let a = set_of c.args.a.now.ids in
    let is : set_of c.in_ok-support.support ≡ bockstein K a = c.in_ok-support.ensures ∙ ap (λ k. bockstein k a) c.complex-complex.ensures.same in
    let B : IsChain K (p + 1) (set_of c.in_ok-support.support) =
    subst (λ (s : Ids). IsChain K (p + 1) s) (sym is) (bockstein-cocycle K c.complex-complex.ensures.complex p a c.requires.cocycle).cochain in
    let moved : IsChain c.complex-complex.result.now (p + 1) (set_of c.in_ok-support.support) =
    subst (λ (k : Complex). IsChain k (p + 1) (set_of c.in_ok-support.support)) (sym c.complex-complex.ensures.same) B in
    subst (λ (n : ℕ). IsChain c.complex-complex.result.now (n + 1) (set_of c.in_ok-support.support)) (sym c.degree.ensures) moved

pub returns-clause-square : goal.returns-clause-square
returns-clause-square c =
    let K = c.args.m.now in
    let p = c.args.a.now.degree in
    let a = set_of c.args.a.now.ids in
    ap set_of c.in_ok-cochain.ensures.ids
    ∙ c.in_ok-support.ensures
    ∙ ap (λ k. bockstein k a) c.complex-complex.ensures.same
    ∙ bockstein-square K c.complex-complex.ensures.complex p a c.requires.cocycle
    ∙ ap (λ k. square K k p a) (sym c.if-k-ne1.false)
