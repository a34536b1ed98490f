use Rattle.std.proofs.Common.{◌≡◌, ◌+◌, ◌||◌, true, false, not, nat_eq, get_or, length, sym, ap, ◌∙◌, eq-eqb}
use Rattle.std.proofs.lemmas.Bool.{or_left}
use Rattle.homology.specs.Complexes.{simplex_at}
use Rattle.homology.proofs.ParityLaws.{nat_eq-apart}
use Rattle.manifold_links.proofs.CoverLaws.{due}
use Rattle.manifold_links.proofs.cover.is_covered.Goals as goal

pub returns-then-counts-id-ne0 : goal.returns-then-counts-id-ne0
returns-then-counts-id-ne0 c =
    let K = c.args.k.now in
    let count = get_or c.args.counts.now c.args.id 0 in
    let top = nat_eq (length (simplex_at K c.args.id)) (c.args.n + 1) in
    let yes : not (nat_eq count 0) ≡ true = ap not (nat_eq-apart count 0 c.if-counts-id-ne0.true) in
    due K c.requires.complex c.args.n c.args.id count _ c.requires.dimension c.requires.there c.requires.counted (yes ∙ sym (or_left (not (nat_eq count 0)) top yes))

pub returns-else-counts-id-ne0 : goal.returns-else-counts-id-ne0
returns-else-counts-id-ne0 c =
    let K = c.args.k.now in
    let count = get_or c.args.counts.now c.args.id 0 in
    let no : not (nat_eq count 0) ≡ false = ap not (eq-eqb count 0 c.if-counts-id-ne0.false) in
    due K c.requires.complex c.args.n c.args.id count _ c.requires.dimension c.requires.there c.requires.counted
    ((λ i. nat_eq (length (c.vertices.ensures.value i)) (c.from.ensures i + 1)) ∙ sym (ap (λ z. z || nat_eq (length (simplex_at K c.args.id)) (c.args.n + 1)) no))
