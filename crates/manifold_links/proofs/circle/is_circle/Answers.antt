use Rattle.std.proofs.Common.{◌≡◌, ℕ, List, get_or, sym, ap, ◌∙◌, arith}
use Rattle.homology.specs.Sets.{set_of}
use Rattle.homology.proofs.BoundaryLaws.{same_list-true}
use Rattle.complex_store.specs.Cofaces.{cofaces}
use Rattle.manifolds.proofs.LinkLaws.{set_of-at}
use Rattle.manifolds.specs.Links.{sphere_counts}
use Rattle.manifold_links.proofs.AboveLaws.{coface-in, in-coface}
use Rattle.manifold_links.proofs.WalkLaws.{walked-betti}
use Rattle.manifold_links.proofs.circle.is_circle.Goals as goal

pub walk-requires-clause-start : goal.walk-requires-clause-start
walk-requires-clause-start c =
    let K = c.args.k.now in
    let x = c.args.id in
    let around = c.of-around.result.now in
    let is : around ≡ cofaces K x = c.of-around.ensures ∙ c.requires.cofaces.each x c.requires.there in
    (coface-in K x (get_or around 0 0) (ap (λ (l : List ℕ). set_of l (get_or around 0 0)) (sym is) ∙ set_of-at around 0 (omega (arith, c.if-around-lt3.false)))).0

pub returns : goal.returns
returns c = λ t.
    let K = c.args.k.now in
    let x = c.args.id in
    let around = c.of-around.result.now in
    let is : around ≡ cofaces K x = c.of-around.ensures ∙ c.requires.cofaces.each x c.requires.there in
    let start = coface-in K x (get_or around 0 0) (ap (λ (l : List ℕ). set_of l (get_or around 0 0)) (sym is) ∙ set_of-at around 0 (omega (arith, c.if-around-lt3.false))) in
    let all : c.in_order-all.result.items ≡ cofaces K x = sym c.deref.ensures.value ∙ same_list-true c.deref.result.now around (sym c.are_same.ensures ∙ t) ∙ is in
    let two : 2 ≡ c.args.left = omega arith in
    walked-betti K c.requires.complex x c.requires.there (omega (arith, two, c.requires.left)) (get_or around 0 0) start.0 start.1
    (λ z zh e. c.in_ok-walked.ensures z (sym (c.in_order-all.ensures.same z) ∙ ap (λ (l : List ℕ). set_of l z) all ∙ in-coface K x z zh e))
    ∙ ap sphere_counts two
