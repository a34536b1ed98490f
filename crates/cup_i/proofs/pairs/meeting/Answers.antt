use Rattle.std.proofs.Common.{◌≡◌, ◌+◌, ◌<◌, ℕ, true, false, length, Option, refl, sym, subst, ◌∙◌}
use Rattle.std.specs.Prelude.{MatchOption}
use Rattle.homology.specs.Sets.{empty, single}
use Rattle.homology.specs.Complexes.{simplex_at}
use Rattle.homology.specs.Growth.{is_there}
use Rattle.products.specs.Splittings.{walks}
use Rattle.cup_i.specs.Pairs.{pair_at, pair_of}
use Rattle.cup_i.proofs.PairLaws.{pair_of-at, pair_of-fails, pair_of-absent, pair_of-wide, union-members, members-union, option-map}
use Rattle.cup_i.proofs.pairs.meeting.Goals as goal

pub returns-in_err-union : goal.returns-in_err-union
returns-in_err-union c =
    let K = c.args.k.now in
    let i = c.args.i in
    let s = c.in-Some-Some.first in
    let w = c.in-Some-Some.second in
    let none : pair_of K i s w ≡ empty =
    pair_of-wide K c.requires.complex c.requires.narrow i s w (λ u up members. c.in_err-union.ensures.wide refl u (members-union s w u up members)) in
    let here : pair_at K i c.args.y c.args.z ≡ empty = (λ j. pair_of K i (c.in-Some-Some.ensures.1 j) (c.in-Some-Some.ensures'.1 j)) ∙ none in
    let P : Option ℕ → Type 0 = λ o. MatchOption o (pair_at K i c.args.y c.args.z ≡ empty) (λ x. (x < length K) × (pair_at K i c.args.y c.args.z ≡ single x)) in
    subst P (sym c.from_residual.ensures) here

pub returns-then-not-passes : goal.returns-then-not-passes
returns-then-not-passes c =
    let K = c.args.k.now in
    let i = c.args.i in
    let s = c.in-Some-Some.first in
    let w = c.in-Some-Some.second in
    let u = c.in_ok-union.union in
    let fails : walks (i + 1) true s w u ≡ false =
    sym (c.passes.ensures ∙ (λ j. walks (c.from-shared.ensures j + 1) true (c.vertices.ensures.value j) (c.vertices-2.ensures.value j) (c.vertices-3.ensures.value j))) ∙ c.if-not-passes.true in
    (λ j. pair_of K i (c.in-Some-Some.ensures.1 j) (c.in-Some-Some.ensures'.1 j))
    ∙ pair_of-fails K c.requires.complex i s w u c.in_ok-union.ensures.value.ascending (union-members s w u c.in_ok-union.ensures.value) fails

pub returns : goal.returns
returns c =
    let K = c.args.k.now in
    let i = c.args.i in
    let s = c.in-Some-Some.first in
    let w = c.in-Some-Some.second in
    let u = c.in_ok-union.union in
    let up = c.in_ok-union.ensures.value.ascending in
    let members = union-members s w u c.in_ok-union.ensures.value in
    let at : pair_at K i c.args.y c.args.z ≡ pair_of K i s w = λ j. pair_of K i (c.in-Some-Some.ensures.1 j) (c.in-Some-Some.ensures'.1 j) in
    let passes : walks (i + 1) true s w u ≡ true =
    sym (c.passes.ensures ∙ (λ j. walks (c.from-shared.ensures j + 1) true (c.vertices.ensures.value j) (c.vertices-2.ensures.value j) (c.vertices-3.ensures.value j))) ∙ c.if-not-passes.false in
    option-map (is_there K u ≡ false) (pair_at K i c.args.y c.args.z ≡ empty)
    (λ (x : ℕ). (x < length K) × (simplex_at K x ≡ u)) (λ (x : ℕ). (x < length K) × (pair_at K i c.args.y c.args.z ≡ single x)) c.find.result
    (λ none. at ∙ pair_of-absent K c.requires.complex i s w u up members none)
    (λ x h. (h.0, at ∙ pair_of-at K c.requires.complex i s w x u up members h.0 h.1 passes))
    c.find.ensures.found
