use Rattle.std.proofs.Common.{◌≡◌, ◌&&◌, true, nat_eq, length, sym, ap, subst, ◌∙◌}
use Rattle.std.proofs.lemmas.Bool.{and_parts, eqb-true}
use Rattle.share_index.specs.Entries.{value_at, IsIndex, IsUpdate}
use Rattle.share_index.proofs.EntryLaws.{IsIndex-push, lookup-push}
use Rattle.share_index.proofs.index.Index.insert_reserved.Goals as goal

pub invariant_of-self : goal.invariant_of-self
invariant_of-self g c =
    let es = c.self.inside.entries.items in let last = c.self.inside.buckets.last.items in let before = c.self.inside.buckets.before.items in
    let roomy : (nat_eq (length es) (length before) && c.self.inside.entries.room) ≡ true = ap (λ s. s.room) c.self.view_is ∙ c.requires.room in
    let all : length es ≡ length before = eqb-true (length es) (length before) (and_parts _ _ roomy).0 in
    subst (λ l. IsIndex g.K.Hashed.same g.K.Hashed.hash l last before) (sym c.push_reserved.ensures.items)
    (IsIndex-push g.met.K.Hashed.laws g.K.Hashed.hash es last before c.args.key c.args.value c.self.invariant (ap (λ s. value_at g.K.Hashed.same s.entries c.args.key) c.self.view_is ∙ c.requires.new) all)

pub returns-clause-update : goal.returns-clause-update
returns-clause-update g c q =
    let same = g.K.Hashed.same in let es = c.self.inside.entries.items in
    subst (λ old. IsUpdate same old c.push_reserved.new.self.items c.args.key c.args.value) (ap (λ s. s.entries) c.self.view_is)
    (λ p. ap (λ l. value_at same l p) c.push_reserved.ensures.items ∙ lookup-push g.met.K.Hashed.laws es c.args.key c.args.value p (ap (λ s. value_at same s.entries c.args.key) c.self.view_is ∙ c.requires.new)) q
