use Rattle.std.proofs.Common.{◌++◌, ◌∷◌, [], ◌%◌, Some, length, slice_set, ap, ◌∙◌}
use Rattle.share_index.proofs.BucketLaws.{IsFiled-file}
use Rattle.share_index.proofs.buckets.Buckets.file.Goals as goal

pub returns-clause-filed : goal.returns-clause-filed
returns-clause-filed c hs filed within is =
    let last = c.args.self.now.last.items in let before = c.args.self.now.before.items in
    IsFiled-file hs last before filed within c.requires.some c.args.hash (c.args.hash % c.len.result) c.at-before.result.now c.set.new.self.items c.push_reserved.new.self.items is
    (ap (λ n. c.args.hash % n) c.len.ensures.count)
    c.at-before.ensures
    (c.in_ok-set.ensures.set ∙ ap (λ n. slice_set last (c.args.hash % c.len.result) (Some n)) (c.len-2.ensures.count ∙ ap length c.reserve.ensures.items))
    (c.push_reserved.ensures.items ∙ ap (λ l. l ++ c.at-before.result.now ∷ []) c.reserve.ensures.items)
