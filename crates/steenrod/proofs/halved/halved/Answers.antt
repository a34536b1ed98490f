use Rattle.std.proofs.Common.{◌≡◌, ◌+◌, ◌<◌, false, List, ℕ, length, sym, ap, subst, ◌∙◌, arith}
use Rattle.std.specs.List.{All, filter}
use Rattle.homology.specs.Sets.{Ids, set_of}
use Rattle.homology.specs.Complexes.{simplex_at}
use Rattle.homology.specs.Chains.{IsCocycle}
use Rattle.cohomology_operations.specs.Bocksteins.{bockstein}
use Rattle.cohomology_operations.proofs.BocksteinLaws.{bockstein-zero}
use Rattle.cochain_values.specs.Marks.{marked}
use Rattle.cochain_values.proofs.MarkLaws.{if_ok-map}
use Rattle.cup_i.proofs.AboveLaws.{above-within, at-these}
use Rattle.cup_i.proofs.KeptLaws.{kept-ascending}
use Rattle.class_solver.proofs.AlongPhi.{marks-within}
use Rattle.steenrod.proofs.HalfLaws.{bockstein-over, over-wide}
use Rattle.steenrod.proofs.halved.halved.Goals as goal

pub returns-then-degree-eq0 : goal.returns-then-degree-eq0
returns-then-degree-eq0 c =
    let K = c.args.k.now in
    let a = set_of c.args.a.now.ids in
    let A : IsCocycle K 0 a = subst (λ (p : ℕ). IsCocycle K p a) (sym c.degree.ensures ∙ c.if-degree-eq0.true) c.requires.cocycle in
    ap set_of c.new.ensures ∙ sym (bockstein-zero K c.requires.complex a A)

pub marks_of-requires-clause-within : goal.marks_of-requires-clause-within
marks_of-requires-clause-within c =
    marks-within c.len.result (length c.args.k.now) c.ids.result.now c.args.a.now.ids (c.ids.ensures.ids ∙ c.support.ensures) c.requires.cocycle.cochain.there
    (sym c.len.ensures.count)

pub odd_halves-requires-clause-within : goal.odd_halves-requires-clause-within
odd_halves-requires-clause-within c =
    let K = c.args.k.now in
    let a = c.args.a.now in
    subst (All (λ (x : ℕ). x < length K)) (sym c.deref-2.ensures.value)
    (above-within K false (set_of a.ids) (a.degree + 1 + 1) c.in_ok-over.over.items c.in_ok-over.ensures)

pub odd_halves-requires-clause-wide : goal.odd_halves-requires-clause-wide
odd_halves-requires-clause-wide c =
    let K = c.args.k.now in
    let a = c.args.a.now in
    subst (All (λ (x : ℕ). 1 < length (simplex_at K x))) (sym c.deref-2.ensures.value) (over-wide K (set_of a.ids) a.degree c.in_ok-over.over.items c.in_ok-over.ensures)

pub from_ascending-requires : goal.from_ascending-requires
from_ascending-requires c =
    let f : Ids = bockstein c.args.k.now (marked c.deref.result.now) in
    kept-ascending f c.in_ok-over.over.items c.deref-3.result.now c.in_ok-over.ensures.ascending
    (c.deref-3.ensures.value ∙ c.in_ok-support.ensures ∙ ap (filter f) c.deref-2.ensures.value)

pub returns : goal.returns
returns c =
    let K = c.args.k.now in
    let p = c.args.a.now.degree in
    let a = set_of c.args.a.now.ids in
    let same : marked c.deref.result.now ≡ a = ap marked c.deref.ensures.value ∙ c.in_ok-marks.ensures.set ∙ ap set_of (c.ids.ensures.ids ∙ c.support.ensures) in
    let all : set_of c.deref-3.result.now ≡ bockstein K a =
    at-these (bockstein K a) c.in_ok-over.over.items c.deref-3.result.now
    (bockstein-over K c.requires.complex p a c.requires.cocycle (omega (arith, c.if-degree-eq0.false, c.degree.ensures)) c.in_ok-over.over.items c.in_ok-over.ensures)
    (c.deref-3.ensures.value ∙ c.in_ok-support.ensures ∙ (λ i. filter (bockstein K (same i)) (c.deref-2.ensures.value i))) in
    if_ok-map (λ (d : List ℕ). d ≡ c.deref-3.result.now) (λ (d : List ℕ). set_of d ≡ bockstein K a) c.from_ascending.result (λ d e. ap set_of e ∙ all) c.from_ascending.ensures
