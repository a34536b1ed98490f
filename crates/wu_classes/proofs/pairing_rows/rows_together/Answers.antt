use Rattle.std.proofs.Common.{◌≡◌, ℕ, ◌-◌, length, sym, ap, subst, ◌∙◌, arith}
use Rattle.std.specs.Prelude.{IfSome}
use Rattle.std.specs.List.Sorted.{IsStrictlyIncreasing}
use Rattle.homology.specs.Complexes.{Complex}
use Rattle.homology.specs.Kinds.{ids}
use Rattle.cohomology.specs.Classes.{essentials}
use Rattle.cohomology.proofs.Naming.{essentials-ascending}
use Rattle.manifolds.specs.Closed.{top}
use Rattle.class_cache.proofs.ListedChains.{listed-within}
use Rattle.wu_classes.specs.Sums.{AreSums}
use Rattle.wu_classes.proofs.Lists.{essentials-le}
use Rattle.wu_classes.proofs.SumLaws.{rows-pairing}
use Rattle.wu_classes.proofs.pairing_rows.rows_together.Goals as goal

pub rows_at-requires-clause-first : goal.rows_at-requires-clause-first
rows_at-requires-clause-first c =
    let C = c.complex-complex.result.now in
    let fits : length c.in-Some-2.sums.items ≡ length C =
    subst (λ o. IfSome o (λ t. length t.items ≡ length C)) c.in-Some-2.is c.in_ok-sums.ensures.fits in
    listed-within c.args.m.now c.complex-complex.ensures.complex c.args.p (length c.deref-2.result.now) c.deref-3.result.now
    (c.deref-3.ensures.value ∙ c.in_ok-first.ensures) (ap length c.deref-2.ensures.value ∙ fits ∙ ap length c.complex-complex.ensures.same)

pub rows_at-requires-clause-ascending : goal.rows_at-requires-clause-ascending
rows_at-requires-clause-ascending c =
    subst IsStrictlyIncreasing (sym c.requires.essential) (essentials-ascending c.args.m.now (c.args.n - c.args.p))

pub rows_at-requires-clause-small : goal.rows_at-requires-clause-small
rows_at-requires-clause-small c =
    let K = c.args.m.now in
    omega (arith, ap length c.requires.essential, essentials-le K (c.args.n - c.args.p), ap length c.complex-complex.ensures.same, c.len.ensures.small)

pub returns : goal.returns
returns c =
    let K = c.args.m.now in
    let C = c.complex-complex.result.now in
    let p = c.args.p in
    let n = c.args.n in
    let items = c.in-Some-2.sums.items in
    let top_is : n ≡ top K = sym c.requires.dimension in
    let there : AreSums C p (ids C n) items = subst (λ o. IfSome o (λ t. AreSums C p (ids C n) t.items)) c.in-Some-2.is c.in_ok-sums.ensures.sums in
    let here : AreSums K p (ids K n) items = subst (λ (k : Complex). AreSums k p (ids k n) items) c.complex-complex.ensures.same there in
    let whole : AreSums K p (ids K (top K)) items = subst (λ (m : ℕ). AreSums K p (ids K m) items) top_is here in
    rows-pairing K c.complex-complex.ensures.complex p c.deref-2.result.now
    (subst (AreSums K p (ids K (top K))) (sym c.deref-2.ensures.value) whole)
    c.in_ok-rows.rows.items c.deref-3.result.now c.args.essential.now
    (c.deref-3.ensures.value ∙ c.in_ok-first.ensures)
    (c.requires.essential ∙ ap (λ m. essentials K (m - p)) top_is)
    c.in_ok-rows.ensures.count c.in_ok-rows.ensures.widths c.in_ok-rows.ensures.entries
