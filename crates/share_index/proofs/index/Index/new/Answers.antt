use Rattle.std.proofs.Common.{[], sym, subst}
use Rattle.share_index.specs.Entries.{IsIndex}
use Rattle.share_index.proofs.EntryLaws.{IsIndex-empty}
use Rattle.share_index.proofs.index.Index.new.Goals as goal

pub invariant_of-result : goal.invariant_of-result
invariant_of-result g c =
    let same = g.K.Hashed.same in let hash = g.K.Hashed.hash in
    subst (λ es. IsIndex same hash es c.new-2.result.last.items c.new-2.result.before.items) (sym c.new.ensures.items)
    (subst (λ last. IsIndex same hash [] last c.new-2.result.before.items) (sym c.new-2.ensures.buckets)
    (subst (λ before. IsIndex same hash [] [] before) (sym c.new-2.ensures.places) (IsIndex-empty g.met.K.Hashed.laws hash)))
