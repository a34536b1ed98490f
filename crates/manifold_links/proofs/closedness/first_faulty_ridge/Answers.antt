use Rattle.std.proofs.Common.{◌≡◌, ◌+◌, ℕ, Bool, List, [], ◌∷◌, length, map, not, nat_eq, sym, ap, subst, ◌∙◌, arith, eq-eqb}
use Rattle.std.specs.Map.Iter.{deref}
use Rattle.std.specs.List.{filter}
use Rattle.std.proofs.lemmas.List.{map-append}
use Rattle.std.proofs.lemmas.Map.Iter.{iter_turn}
use Rattle.std.proofs.lemmas.Option.{get_or_from_slice_get}
use Rattle.homology.specs.Complexes.{dim, simplex_at}
use Rattle.manifolds.specs.Closed.{times, top}
use Rattle.manifold_links.specs.Firsts.{IsFirst}
use Rattle.manifold_links.proofs.FirstLaws.{either-holds}
use Rattle.manifold_links.proofs.closedness.first_faulty_ridge.Goals as goal

pub loop-id-preserved : goal.loop-id-preserved
loop-id-preserved c =
    let K = c.args.k.now in
    let items = c.of_dimension.result.now.items in
    let test : ℕ → Bool = λ x. not (nat_eq (times K (simplex_at K x)) 2) in
    let i : ℕ = length c.loop-id.yielded in
    let turn = iter_turn deref items c.loop-id.yielded _ _ _ _ (c.into_iter-id-iterator.ensures.into_iter_gives ∙ c.iter-id-items.ensures.rest) c.loop-id.yielded_by c.in-Some-id.id c.in-Some-id.is c.next.ensures.steps in
    let here = get_or_from_slice_get items i c.in-Some-id.id.now 0 turn.1 in
    let degree : dim K c.in-Some-id.id.now ≡ c.in-Some.p = ap (dim K) (sym here) ∙ c.of_dimension.ensures.dimension i 0 turn.0 in
    record {
      can_next = tt;
      finite = tt;
      first = subst (λ (ys : List ℕ). IsFirst K (filter test ys) c.with_next-first.result) (sym (map-append deref c.loop-id.yielded (c.in-Some-id.id ∷ [])))
          (c.with_next-first.ensures.first test (map deref c.loop-id.yielded) (λ i. not (nat_eq (sym c.times-times.ensures i) 2)) c.loop-id.invariant.first);
      ridge = either-holds (λ x. nat_eq (dim K x + 1) (top K)) c.loop-id.first c.with_next-first.result c.in-Some-id.id.now c.with_next-first.ensures.either c.loop-id.invariant.ridge
          (eq-eqb (dim K c.in-Some-id.id.now + 1) (top K) (omega (arith, degree, c.in-Some.ensures, c.requires.dimension)));
    }
