use Rattle.std.proofs.Common.{◌≡◌, ℕ, ◌-◌, ◌<◌, Bool, List, [], ◌∷◌, length, sym, ap, ◌∙◌, subst, arith}
use Rattle.std.specs.Prelude.{IfSome}
use Rattle.homology.specs.Sets.{Ids, set_of}
use Rattle.homology.specs.Kinds.{betti, ids}
use Rattle.cohomology.specs.Classes.{essentials}
use Rattle.cohomology.proofs.Naming.{betti-essentials}
use Rattle.products.specs.Caps.{cap}
use Rattle.manifolds.specs.Closed.{top}
use Rattle.characteristic_classes.specs.Pairings.{cocycle, row}
use Rattle.homology.specs.ListSums.{odd_over}
use Rattle.homology.proofs.ListSetLaws.{set_of-All}
use Rattle.at_model.specs.Maps.{IsFOfChain}
use Rattle.elimination.specs.Rows.{entry}
use Rattle.wu_classes.proofs.Lists.{essentials-le}
use Rattle.wu_classes.proofs.KeptRows.{row-kept}
use Rattle.wu_classes.proofs.Rows.{row-is}
use Rattle.wu_classes.proofs.row.row_of_class.Goals as goal

pub read_at-requires : goal.read_at-requires
read_at-requires c =
    let K = c.args.m.now in
    omega (arith, ap length c.requires.essential, essentials-le K (c.args.n - c.args.p), ap length c.complex-complex.ensures.same, c.len.ensures.small)

pub returns-clause-width : goal.returns-clause-width
returns-clause-width c =
    let K = c.args.m.now in
    let n = c.args.n in
    let W : length c.in-Some.row ≡ betti K n = subst (λ o. IfSome o (λ r. length r ≡ betti K n)) c.in-Some.is c.in_ok-row.ensures.width in
    W ∙ ap (betti K) (omega (arith, c.if-p-eq0.true))

pub returns-clause-row : goal.returns-clause-row
returns-clause-row c =
    let K = c.args.m.now in
    let R : c.in-Some.row ≡ row K 0 c.args.number = subst (λ o. IfSome o (λ r. r ≡ row K 0 c.args.number)) c.in-Some.is c.in_ok-row.ensures.row in
    R ∙ ap (λ (q : ℕ). row K q c.args.number) (omega (arith, c.if-p-eq0.true))

pub returns-in-Some-2-clause-row : goal.returns-in-Some-2-clause-row
returns-in-Some-2-clause-row c =
    let K = c.args.m.now in
    let p = c.args.p in
    let j = c.args.number in
    let cap_of = c.in_ok-cap.cap in
    let C = c.in_ok-class.ensures.cocycle in
    let E = c.in_ok-row-2.ensures in
    let r = c.in-Some-2.row in
    let top_is : c.args.n ≡ top K = sym c.requires.dimension in
    let P : ℕ → List Bool → Type 0 = λ n r. (k : ℕ) → k < betti K (n - p) → entry r k ≡ odd_over cap_of (cocycle K (n - p) (k ∷ [])) in
    let width : length r ≡ betti K (c.args.n - p) = subst (λ o. IfSome o (λ r. length r ≡ betti K (c.args.n - p))) c.in-Some-2.is E.width in
    let values : P c.args.n r = subst (λ o. IfSome o (P c.args.n)) c.in-Some-2.is E.values in
    let M : set_of c.args.whole.now ≡ set_of (ids K (top K)) = c.requires.whole ∙ ap (λ n. set_of (ids K n)) top_is in
    row-kept K c.complex-complex.ensures.complex p j cap_of r c.requires.number
    (c.in_ok-cap.ensures.product ∙ (λ i. cap K (C.degree i) (C.set i) (M i)))
    E.ascending
    (set_of-All (λ t. t < length K) cap_of c.in_ok-cap.ensures.chain.there)
    (width ∙ ap (λ n. betti K (n - p)) top_is)
    (subst (λ (n : ℕ). P n r) top_is values)

pub returns-2-clause-width : goal.returns-2-clause-width
returns-2-clause-width c =
    c.in_ok-row-3.ensures.width ∙ ap length c.requires.essential ∙ betti-essentials c.args.m.now (c.args.n - c.args.p)

pub returns-2-clause-row : goal.returns-2-clause-row
returns-2-clause-row c =
    let K = c.args.m.now in
    let p = c.args.p in
    let a = c.in_ok-class.class in
    let C = c.in_ok-class.ensures.cocycle in
    let f = set_of c.in_ok-f.f in
    let top_is : c.args.n ≡ top K = sym c.requires.dimension in
    let essential : c.args.essential.now ≡ essentials K (top K - p) = c.requires.essential ∙ ap (λ n. essentials K (n - p)) top_is in
    let count : length c.args.essential.now ≡ betti K (top K - p) = ap length essential ∙ betti-essentials K (top K - p) in
    let M : set_of c.args.whole.now ≡ set_of (ids K (top K)) = c.requires.whole ∙ ap (λ n. set_of (ids K n)) top_is in
    let product : set_of c.in_ok-cap.cap ≡ cap K p (cocycle K p (c.args.number ∷ [])) (set_of (ids K (top K))) =
    c.in_ok-cap.ensures.product ∙ (λ i. cap K (C.degree i) (C.set i) (M i)) in
    let F : IsFOfChain K (cap K p (cocycle K p (c.args.number ∷ [])) (set_of (ids K (top K)))) f =
    subst (λ (z : Ids). IsFOfChain K z f) product c.in_ok-f.ensures in
    row-is K c.complex-complex.ensures.complex p c.args.number c.in_ok-row-3.row f c.args.essential.now c.requires.number F
    (c.in_ok-row-3.ensures.width ∙ count) essential count c.in_ok-row-3.ensures.entries
