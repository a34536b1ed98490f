use Rattle.std.proofs.Common.{◌≡◌, ◌+◌, ◌<◌, ◌++◌, ℕ, List, length, sym, ap, subst, ◌∙◌, arith}
use Rattle.std.specs.List.{All, list_any}
use Rattle.std.specs.List.Sorted.{IsStrictlyIncreasing}
use Rattle.homology.specs.Sets.{set_of}
use Rattle.cup_i.specs.Above.{kept_cofaces, IsAbove}
use Rattle.cup_i.proofs.AboveLaws.{above-first, above-next, above-within}
use Rattle.cup_i.proofs.above.above.Goals as goal

pub loop-done-init : goal.loop-done-init
loop-done-init c =
    let a = c.args.a.now in
    let is : c.extend_from_slice.new.self.items ≡ a.ids =
    c.in_ok-extend_from_slice.ensures.items ∙ (λ i. c.new-level.ensures.items i ++ c.ids.ensures.ids i) ∙ c.support.ensures in
    above-first c.args.k.now c.requires.complex c.args.behind a.degree (set_of a.ids) c.requires.stands c.extend_from_slice.new.self.items
    (subst IsStrictlyIncreasing (sym (is ∙ sym c.support.ensures)) c.ids.ensures.ascending) (ap set_of is)

pub next_level-requires-clause-within : goal.next_level-requires-clause-within
next_level-requires-clause-within c =
    let a = c.args.a.now in
    subst (All (λ (u : ℕ). u < length c.args.k.now)) (sym c.deref.ensures.value)
    (above-within c.args.k.now c.args.behind (set_of a.ids) (a.degree + 1 + c.loop-done.done) c.loop-done.level.items c.loop-done.invariant)

pub loop-done-preserved : goal.loop-done-preserved
loop-done-preserved c =
    let K = c.args.k.now in
    let a = c.args.a.now in
    let behind = c.args.behind in
    let n = a.degree + 1 + c.loop-done.done in
    subst (λ (m : ℕ). IsAbove K behind (set_of a.ids) m c.in_ok-next.next.items) (omega arith)
    (above-next K c.requires.complex behind a.degree (set_of a.ids) c.requires.stands n c.loop-done.level.items c.in_ok-next.next.items (omega arith)
    c.loop-done.invariant c.in_ok-next.ensures.ascending
    (λ z. c.in_ok-next.ensures.members z ∙ ap (λ us. list_any (λ u. set_of (kept_cofaces K behind u) z) us) c.deref.ensures.value))
