use Rattle.std.proofs.Common.{◌≡◌, ℕ, ◌<◌, Bool, List, [], ◌∷◌, length, ap, ◌∙◌, subst, sym, arith}
use Rattle.std.specs.Prelude.{IfSome, slice_index}
use Rattle.std.specs.List.Sorted.{IsStrictlyIncreasing}
use Rattle.homology.specs.Sets.{set_of}
use Rattle.homology.specs.ListSums.{odd_over}
use Rattle.homology.specs.Kinds.{betti}
use Rattle.cohomology.specs.Classes.{essentials}
use Rattle.cohomology.proofs.Naming.{betti-essentials, essentials-ascending}
use Rattle.characteristic_classes.specs.Pairings.{cocycle}
use Rattle.elimination.specs.Rows.{entry}
use Rattle.wu_classes.proofs.KeptRows.{top-kept}
use Rattle.wu_classes.proofs.Lists.{essentials-le}
use Rattle.wu_classes.proofs.SumLaws.{top-values}
use Rattle.wu_classes.proofs.wu_words.values_of_classes.Goals as goal

pub row_of_members-requires-clause-ascending : goal.row_of_members-requires-clause-ascending
row_of_members-requires-clause-ascending c =
    subst IsStrictlyIncreasing (sym (c.deref.ensures.value ∙ c.in_ok-essential.ensures)) (essentials-ascending c.args.m.now c.args.n)

pub row_of_members-requires-clause-small : goal.row_of_members-requires-clause-small
row_of_members-requires-clause-small c =
    omega (
      arith,
      ap length (c.deref.ensures.value ∙ c.in_ok-essential.ensures),
      essentials-le c.args.m.now c.args.n,
      ap length c.complex-complex.ensures.same,
      c.len.ensures.small,
    )

pub returns-clause-width : goal.returns-clause-width
returns-clause-width c =
    c.in_ok-row-2.ensures.width ∙ ap length (c.deref.ensures.value ∙ c.in_ok-essential.ensures) ∙ betti-essentials c.args.m.now c.args.n

pub returns-clause-values : goal.returns-clause-values
returns-clause-values c = λ l lt.
    let K = c.args.m.now in
    let n = c.args.n in
    let listed : c.deref.result.now ≡ essentials K n = c.deref.ensures.value ∙ c.in_ok-essential.ensures in
    let f = set_of c.in_ok-f.f in
    c.in_ok-row-2.ensures.entries l (omega (arith, lt, ap length listed, betti-essentials K n))
    ∙ ap (λ xs. f (slice_index xs l)) listed
    ∙ top-values K c.complex-complex.ensures.complex n c.requires.top.top (set_of c.in_ok-whole.whole) f c.in_ok-whole.ensures.set c.in_ok-f.ensures l lt

pub returns-in-Some-clause-values : goal.returns-in-Some-clause-values
returns-in-Some-clause-values c = λ l lt.
    let K = c.args.m.now in
    let n = c.args.n in
    let whole = c.in_ok-whole.whole in
    let P : List Bool → Type 0 = λ r. (k : ℕ) → k < betti K n → entry r k ≡ odd_over whole (cocycle K n (k ∷ [])) in
    let E = c.in_ok-row.ensures in
    let values : P c.in-Some.row = subst (λ o. IfSome o P) c.in-Some.is E.values in
    values l lt
    ∙ top-kept K c.complex-complex.ensures.complex n c.requires.top.top whole c.in_ok-whole.ensures.set E.ascending l lt
