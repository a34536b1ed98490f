use Rattle.std.proofs.Common.{◌≡◌, List, length, sym, ap, ◌∙◌, subst}
use Rattle.std.proofs.lemmas.Bool.{true≢false}
use Rattle.std.proofs.lemmas.List.{length-map}
use Rattle.elimination.specs.Rows.{Given, IsExpression}
use Rattle.elimination.specs.Reductions.{IsReduction}
use Rattle.elimination.specs.declared.reduction.Kept.{Kept}
use Rattle.elimination.proofs.KeptLaws.{found, never, full}
use Rattle.elimination.proofs.basis.Basis.express.Goals as goal

pub returns-in-Some-clause-found : goal.returns-in-Some-clause-found
returns-in-Some-clause-found c =
    let n = c.self.inside.width in
    let ks = c.self.inside.kept.items in
    let row = c.args.row.now in
    let r = c.in_ok-rest.field-0.rest in
    let t = c.in_ok-rest.field-0.terms in
    let width : length row ≡ n = c.requires ∙ sym (ap (λ (g : Given). g.width) c.self.view_is) in
    let R : IsReduction ks row r t = subst (λ (l : List Kept). IsReduction l row r t) c.deref.ensures.value c.in_ok-rest.ensures in
    λ numbers X.
    never n ks c.self.invariant row r t width R c.in-Some.field-0 c.in-Some.ensures.1 numbers
    (subst (λ (g : Given). IsExpression g.rows numbers row) (sym c.self.view_is) X)

pub returns-in-Some-clause-full : goal.returns-in-Some-clause-full
returns-in-Some-clause-full c =
    let n = c.self.inside.width in
    let ks = c.self.inside.kept.items in
    let row = c.args.row.now in
    let r = c.in_ok-rest.field-0.rest in
    let t = c.in_ok-rest.field-0.terms in
    let width : length row ≡ n = c.requires ∙ sym (ap (λ (g : Given). g.width) c.self.view_is) in
    let R : IsReduction ks row r t = subst (λ (l : List Kept). IsReduction l row r t) c.deref.ensures.value c.in_ok-rest.ensures in
    λ all.
    let count : length ks ≡ n =
    sym (length-map ks (λ k. k.given)) ∙ ap (λ (g : Given). length g.rows) c.self.view_is ∙ all ∙ sym (ap (λ (g : Given). g.width) c.self.view_is) in
    absurd (true≢false (sym c.in-Some.ensures.1 ∙ ap (λ z. z c.in-Some.field-0) (full n ks c.self.invariant row r t width R count)))

pub returns-clause-found : goal.returns-clause-found
returns-clause-found c =
    let n = c.self.inside.width in
    let ks = c.self.inside.kept.items in
    let row = c.args.row.now in
    let r = c.in_ok-rest.field-0.rest in
    let t = c.in_ok-rest.field-0.terms in
    let width : length row ≡ n = c.requires ∙ sym (ap (λ (g : Given). g.width) c.self.view_is) in
    let R : IsReduction ks row r t = subst (λ (l : List Kept). IsReduction l row r t) c.deref.ensures.value c.in_ok-rest.ensures in
    let numbers = c.in_ok-ones-in-None.field-0.items in
    let e = c.in_ok-ones-in-None.ensures in
    subst (λ (g : Given). IsExpression g.rows numbers row) c.self.view_is
    (found n ks c.self.invariant row r t width R numbers c.in-None.ensures e.set e.ascending e.within)
