use Rattle.std.proofs.Common.{ℕ, List, Option, subst}
use Rattle.std.specs.Prelude.{IfSome}
use Rattle.homology.specs.Complexes.{Complex}
use Rattle.cochain_values.specs.Cochains.{StandsOn}
use Rattle.class_cache.specs.Kept.{IsSumOfRows}
use Rattle.class_cache.proofs.KeptLaws.{kept-stands, kept-sum}
use Rattle.class_cache.proofs.cached.sum_of_kept.Goals as goal

pub from_ids-requires : goal.from_ids-requires
from_ids-requires c =
    let P : Option (List ℕ) → Type 0 = λ o. IfSome o (IsSumOfRows c.deref.result.now c.args.numbers.now) in
    let S : IsSumOfRows c.deref.result.now c.args.numbers.now c.in-Some-2.sum = subst P c.in-Some-2.is c.in_ok-sum.ensures in
    kept-stands c.args.m.now c.complex-complex.result.now c.complex-complex.ensures.complex c.args.degree c.in-Some.kept.now c.args.numbers.now c.in-Some-2.sum
    (c.in-Some.ensures c.args.m.now c.requires).1 (c.in-Some.ensures c.args.m.now c.requires).0
    (subst (λ (rows : List (Option (List ℕ))). IsSumOfRows rows c.args.numbers.now c.in-Some-2.sum) c.deref.ensures.value S) c.complex-complex.ensures.same

pub returns : goal.returns
returns c =
    let P : Option (List ℕ) → Type 0 = λ o. IfSome o (IsSumOfRows c.deref.result.now c.args.numbers.now) in
    let S : IsSumOfRows c.deref.result.now c.args.numbers.now c.in-Some-2.sum = subst P c.in-Some-2.is c.in_ok-sum.ensures in
    let Q : Complex → Type 0 = λ k. StandsOn k c.in_ok-cocycle.cocycle in
    kept-sum c.args.m.now c.complex-complex.ensures.complex c.args.degree c.in-Some.kept.now c.args.numbers.now c.in-Some-2.sum c.in_ok-cocycle.cocycle
    (c.in-Some.ensures c.args.m.now c.requires).1 (c.in-Some.ensures c.args.m.now c.requires).0
    (subst (λ (rows : List (Option (List ℕ))). IsSumOfRows rows c.args.numbers.now c.in-Some-2.sum) c.deref.ensures.value S)
    c.in_ok-cocycle.ensures.degree c.in_ok-cocycle.ensures.ids (subst Q c.complex-complex.ensures.same c.in_ok-cocycle.ensures.stands)
