use Rattle.std.specs.Prelude.{◌≡◌, ◌+◌, true, not, nat_eq, map, IfSome}
use Rattle.std.specs.List.{filter}
use Rattle.std.specs.Map.Iter.{deref}
use Rattle.homology.specs.Complexes.{dim, simplex_at}
use Rattle.manifolds.specs.Closed.{times, top}
use Rattle.manifold_links.specs.Firsts.{IsFirst}
use Rattle.manifold_links.proofs.closedness.first_faulty_ridge.Given as goal

abbrev pub invariant-loop-id : goal.invariant-loop-id
invariant-loop-id l = record {
  can_next : (goal.iterator-loop-id).can_next l.id-iterator;
  finite : (goal.iterator-loop-id).is_finite l.id-iterator;
  first : IsFirst l.k (filter (λ x. not (nat_eq (times l.k (simplex_at l.k x)) 2)) (map deref l.yielded)) l.first;
  ridge : IfSome l.first (λ id. nat_eq (dim l.k id + 1) (top l.k) ≡ true);
}
