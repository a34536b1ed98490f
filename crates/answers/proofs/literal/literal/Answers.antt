-- What is listed is sorted in its place.
use Rattle.std.proofs.Common.{◌≡◌, length, map, ap, ◌∙◌, arith}
use Rattle.homology.specs.Complexes.{simplex_at}
use Rattle.homology.specs.Order.{in_simplex_order}
use Rattle.answers.specs.Literals.{there}
use Rattle.simplex_order.proofs.SortLaws.{order-length}
use Rattle.f2_chains.proofs.Orders.{refilled}
use Rattle.answers.proofs.Listing.{literal-listed}
use Rattle.answers.proofs.literal.literal.Goals as goal

pub returns : goal.returns
returns c =
    let K = c.args.complex.now in
    let listed = c.in_ok-simplices.simplices in
    let sorted : c.sort.new.simplices ≡ in_simplex_order listed.items = c.sort.ensures ∙ ap in_simplex_order c.as_mut_slice.ensures.value in
    refilled listed.len listed.items c.sort.new.simplices (omega (arith, listed.ok.0, ap length sorted, order-length listed.items))
    ∙ sorted
    ∙ ap in_simplex_order c.in_ok-simplices.ensures
    ∙ ap (λ l. in_simplex_order (map (simplex_at K) (there K l))) c.ids.ensures.ids
    ∙ literal-listed K c.args.set.now c.ids.ensures.ascending
