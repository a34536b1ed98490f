use Rattle.std.proofs.Common.{◌≡◌, ◌<◌, ◌||◌, List, nat_eq, length, sym, ap, ◌∙◌, subst, arith}
use Rattle.elimination.specs.Rows.{Given, IsExpression, entry}
use Rattle.elimination.specs.Reductions.{IsReduction, AreKept}
use Rattle.elimination.specs.declared.reduction.Kept.{Kept}
use Rattle.elimination.proofs.KeptLaws.{kept-few, found, never, space, more}
use Rattle.elimination.proofs.basis.Basis.add.Goals as goal

pub overflow_cast-len : goal.overflow_cast-len
overflow_cast-len c = omega (arith, kept-few c.self.inside.width c.self.inside.kept.items c.self.invariant, c.len.ensures)

pub set-requires : goal.set-requires
set-requires c =
    let n = c.self.inside.width in
    let ks = c.self.inside.kept.items in
    let row = c.args.row in
    let width : length row ≡ n = c.requires ∙ sym (ap (λ (g : Given). g.width) c.self.view_is) in
    let R : IsReduction ks row c.in_ok-rest.field-0.rest c.in_ok-rest.field-0.terms =
    subst (λ (l : List Kept). IsReduction l row c.in_ok-rest.field-0.rest c.in_ok-rest.field-0.terms) c.deref.ensures.value c.in_ok-rest.ensures in
    let lt : length ks < n = space n ks c.self.invariant row c.in_ok-rest.field-0.rest c.in_ok-rest.field-0.terms width R c.in-Some.lead c.in-Some.ensures.1 in
    omega (arith, lt, c.len.ensures, R.terms_width, width)

pub invariant_of-self-in-Some : goal.invariant_of-self-in-Some
invariant_of-self-in-Some c =
    let n = c.self.inside.width in
    let ks = c.self.inside.kept.items in
    let row = c.args.row in
    let r = c.in_ok-rest.field-0.rest in
    let t = c.in_ok-rest.field-0.terms in
    let width : length row ≡ n = c.requires ∙ sym (ap (λ (g : Given). g.width) c.self.view_is) in
    let R : IsReduction ks row r t = subst (λ (l : List Kept). IsReduction l row r t) c.deref.ensures.value c.in_ok-rest.ensures in
    let count : c.len.result ≡ length ks = omega (arith, c.len.ensures) in
    subst (AreKept n) (sym c.in_ok-push-in-Some.ensures.items)
    (more n ks c.self.invariant row r t width R c.set.new.self c.in-Some.lead c.in-Some.ensures.1 c.set.ensures.width
    (λ j. c.set.ensures.set j ∙ ap (λ m. nat_eq j m || entry t j) count))

pub returns-in_ok-push-in-Some-clause-found : goal.returns-in_ok-push-in-Some-clause-found
returns-in_ok-push-in-Some-clause-found c =
    let n = c.self.inside.width in
    let ks = c.self.inside.kept.items in
    let row = c.args.row in
    let r = c.in_ok-rest.field-0.rest in
    let t = c.in_ok-rest.field-0.terms in
    let width : length row ≡ n = c.requires ∙ sym (ap (λ (g : Given). g.width) c.self.view_is) in
    let R : IsReduction ks row r t = subst (λ (l : List Kept). IsReduction l row r t) c.deref.ensures.value c.in_ok-rest.ensures in
    λ numbers X.
    never n ks c.self.invariant row r t width R c.in-Some.lead c.in-Some.ensures.1 numbers
    (subst (λ (g : Given). IsExpression g.rows numbers row) (sym c.self.view_is) X)

pub returns-in_ok-push-in-Some-clause-independent : goal.returns-in_ok-push-in-Some-clause-independent
returns-in_ok-push-in-Some-clause-independent c = (invariant_of-self-in-Some c).independent

pub returns-in_ok-ones-in-None-clause-found : goal.returns-in_ok-ones-in-None-clause-found
returns-in_ok-ones-in-None-clause-found c =
    let n = c.self.inside.width in
    let ks = c.self.inside.kept.items in
    let row = c.args.row in
    let r = c.in_ok-rest.field-0.rest in
    let t = c.in_ok-rest.field-0.terms in
    let width : length row ≡ n = c.requires ∙ sym (ap (λ (g : Given). g.width) c.self.view_is) in
    let R : IsReduction ks row r t = subst (λ (l : List Kept). IsReduction l row r t) c.deref.ensures.value c.in_ok-rest.ensures in
    let numbers = c.in_ok-ones-in-None.field-0.items in
    let e = c.in_ok-ones-in-None.ensures in
    subst (λ (g : Given). IsExpression g.rows numbers row) c.self.view_is
    (found n ks c.self.invariant row r t width R numbers c.in-None.ensures e.set e.ascending e.within)
