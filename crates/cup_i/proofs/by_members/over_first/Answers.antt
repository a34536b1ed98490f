use Rattle.std.proofs.Common.{◌≡◌, ◌+◌, ◌-◌, ◌<◌, List, ℕ, length, nat_eq, eqb-true, sym, ap, subst, ◌∙◌, arith}
use Rattle.std.specs.List.{All}
use Rattle.std.specs.List.Sorted.{IsStrictlyIncreasing}
use Rattle.homology.specs.Sets.{Ids, set_of}
use Rattle.homology.specs.Complexes.{simplex_at}
use Rattle.cochain_values.specs.Marks.{marked}
use Rattle.cup_i.specs.Above.{IsAbove}
use Rattle.cup_i.proofs.AboveLaws.{above-within, above-degree, over-first}
use Rattle.cup_i.proofs.by_members.over_first.Goals as goal

pub at_these-requires-clause-ascending : goal.at_these-requires-clause-ascending
at_these-requires-clause-ascending c = subst IsStrictlyIncreasing (sym c.deref.ensures.value) c.in_ok-ids.ensures.ascending

pub at_these-requires-clause-within : goal.at_these-requires-clause-within
at_these-requires-clause-within c =
    let K = c.args.k.now in
    let behind = nat_eq c.args.i 0 in
    let a = c.args.a.now in
    let n = a.degree + 1 + (c.args.second.now.degree - c.args.i) in
    subst (All (λ (x : ℕ). x < length K)) (sym c.deref.ensures.value) (above-within K behind (set_of a.ids) n c.in_ok-ids.ids.items c.in_ok-ids.ensures)

pub at_these-requires-clause-degree : goal.at_these-requires-clause-degree
at_these-requires-clause-degree c =
    let K = c.args.k.now in
    let behind = nat_eq c.args.i 0 in
    let a = c.args.a.now in
    let p = c.args.first.now.degree in
    let q = c.args.second.now.degree in
    let n = a.degree + 1 + (q - c.args.i) in
    subst (All (λ (x : ℕ). length (simplex_at K x) + c.args.i ≡ p + q + 1)) (sym c.deref.ensures.value)
    (above-degree K behind (set_of a.ids) n c.args.i (p + q + 1) c.in_ok-ids.ids.items c.in_ok-ids.ensures
    (omega (arith, c.requires.second_index, c.requires.degree)))

pub at_these-requires-clause-all : goal.at_these-requires-clause-all
at_these-requires-clause-all c = λ x one.
    let K = c.args.k.now in
    let behind = nat_eq c.args.i 0 in
    let a = c.args.a.now in
    let p = c.args.first.now.degree in
    let q = c.args.second.now.degree in
    let first = marked c.args.first.now.marks.items in
    let second = marked c.args.second.now.marks.items in
    let n = a.degree + 1 + (q - c.args.i) in
    let moved : IsAbove K behind first n c.in_ok-ids.ids.items = subst (λ (s : Ids). IsAbove K behind s n c.in_ok-ids.ids.items) c.requires.same c.in_ok-ids.ensures in
    ap (λ l. set_of l x) c.deref.ensures.value
    ∙ over-first K c.requires.first.complex c.args.i p q n first second c.requires.first.cochain c.requires.second.cochain
    (omega (arith, c.requires.second_index, c.requires.degree)) c.in_ok-ids.ids.items x one behind (eqb-true c.args.i 0) moved
