use Rattle.std.proofs.Common.{length, sym, ap, subst, ◌∙◌, ◌%◌, arith}
use Rattle.share_index.specs.Buckets.{bound, IsLast}
use Rattle.std.proofs.lemmas.List.{length-map}
use Rattle.share_index.specs.Entries.{hashes}
use Rattle.share_index.proofs.SearchLaws.{IsLeft, IsLeft-first, IsLeft-next, found_at}
use Rattle.share_index.proofs.search.find_filed.Goals as goal

pub loop-at-init : goal.loop-at-init
loop-at-init g c =
    let es = c.args.entries.now.items in let m = length c.args.buckets.now.last.items in let n = length c.args.buckets.now.before.items in
    let last = c.last-at.ensures (hashes g.K.Hashed.hash es) c.requires in
    IsLeft-first g.met.K.Hashed.exact g.K.Hashed.hash es m c.args.key.now n c.last-at.result
    (subst (λ h. IsLast (hashes g.K.Hashed.hash es) m (h % m) n c.last-at.result) c.hash.ensures last)

pub returns-then-is_same : goal.returns-then-is_same
returns-then-is_same g c =
    found_at g.met.K.Hashed.exact c.args.entries.now.items c.args.key.now c.in-Some.place c.at-entry.result.now
    (omega (arith, c.loop-at.invariant.within, ap bound c.in-Some.is, c.requires.few, length-map c.args.entries.now.items (λ e. g.K.Hashed.hash e.0))) c.at-entry.ensures (sym c.is_same.ensures ∙ c.if-is_same.true)

pub loop-at-preserved : goal.loop-at-preserved
loop-at-preserved g c =
    let es = c.args.entries.now.items in let m = length c.args.buckets.now.last.items in let n = length c.args.buckets.now.before.items in
    IsLeft-next g.met.K.Hashed.exact g.K.Hashed.hash es m c.args.key.now n c.in-Some.place c.before-at.result c.at-entry.result.now
    (subst (IsLeft g.K.Hashed.same g.K.Hashed.hash es m n c.args.key.now) c.in-Some.is c.loop-at.invariant)
    (ap (λ e. g.K.Hashed.same c.args.key.now e.0) (sym c.at-entry.ensures) ∙ sym c.is_same.ensures ∙ c.if-is_same.false)
    (c.before-at.ensures (hashes g.K.Hashed.hash es) c.requires)
