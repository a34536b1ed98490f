use Rattle.std.proofs.Common.{◌+◌, MatchOption, length, ap, subst}
use Rattle.share_index.specs.Entries.{HasEntry, HasNone}
use Rattle.share_index.proofs.EntryLaws.{found, found_last}
use Rattle.share_index.proofs.index.Index.find.Goals as goal

pub returns-in-Some : goal.returns-in-Some
returns-in-Some g c =
    found g.met.K.Hashed.laws c.self.inside.entries.items c.args.self.now.entries c.args.key.now c.in-Some.found c.self.invariant.distinct (ap (λ s. s.entries) c.self.view_is) c.in-Some.ensures

pub returns-in-None : goal.returns-in-None
returns-in-None g c =
    found_last g.met.K.Hashed.laws c.self.inside.entries.items c.args.self.now.entries (length c.self.inside.buckets.before.items) c.args.key.now c.find_at.result
    c.self.invariant.distinct (ap (λ s. s.entries) c.self.view_is) c.self.invariant.waiting c.in-None.ensures
    (subst (λ n. MatchOption c.find_at.result (HasNone g.K.Hashed.same c.self.inside.entries.items n (n + 1) c.args.key.now) (HasEntry c.self.inside.entries.items c.args.key.now)) c.len.ensures.count c.find_at.ensures)
