use Rattle.std.proofs.Common.{sym, ap, subst, ◌∙◌}
use Rattle.share_index.specs.Entries.{put, HasEntry, IsUpdate}
use Rattle.share_index.proofs.EntryLaws.{IsIndex-changed, put_there, update-put}
use Rattle.share_index.proofs.index.Index.with.Goals as goal

pub invariant_of-self : goal.invariant_of-self
invariant_of-self g c =
    let es = c.self.inside.entries.items in let k = c.args.key in
    let entry = subst (λ s. HasEntry s.entries k (c.in-Some.place, c.in-Some.field-0-1)) (sym c.self.view_is) c.in-Some.ensures.entry in
    IsIndex-changed g.met.K.Hashed.laws c.set.result g.K.Hashed.hash es c.set.new.self.items c.self.inside.buckets.last.items c.self.inside.buckets.before.items
    c.in-Some.place k c.in-Some.field-0-1 c.args.value c.self.invariant entry.1 c.set.ensures.set c.set.ensures.unchanged

pub returns-in_ok-set-in-Some-clause-entries : goal.returns-in_ok-set-in-Some-clause-entries
returns-in_ok-set-in-Some-clause-entries g c =
    let k = c.args.key in
    let entry = subst (λ s. HasEntry s.entries k (c.in-Some.place, c.in-Some.field-0-1)) (sym c.self.view_is) c.in-Some.ensures.entry in
    c.in_ok-set-in-Some.ensures.set ∙ put_there g.met.K.Hashed.laws c.self.inside.entries.items k c.args.value (c.in-Some.place, c.in-Some.field-0-1) c.self.invariant.distinct entry
    ∙ ap (λ s. put g.K.Hashed.same s.entries k c.args.value) c.self.view_is

pub returns-in_ok-set-in-Some-clause-update : goal.returns-in_ok-set-in-Some-clause-update
returns-in_ok-set-in-Some-clause-update g c =
    let k = c.args.key in let same = g.K.Hashed.same in
    let entry = subst (λ s. HasEntry s.entries k (c.in-Some.place, c.in-Some.field-0-1)) (sym c.self.view_is) c.in-Some.ensures.entry in
    subst (λ l. IsUpdate same c.args.self.now.entries l k c.args.value)
    (sym (c.in_ok-set-in-Some.ensures.set ∙ put_there g.met.K.Hashed.laws c.self.inside.entries.items k c.args.value (c.in-Some.place, c.in-Some.field-0-1) c.self.invariant.distinct entry
    ∙ ap (λ s. put same s.entries k c.args.value) c.self.view_is))
    (update-put g.met.K.Hashed.laws c.args.self.now.entries k c.args.value)
