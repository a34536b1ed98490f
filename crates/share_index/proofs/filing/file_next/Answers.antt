use Rattle.std.proofs.Common.{length, sym, arith}
use Rattle.std.proofs.lemmas.List.{length-map}
use Rattle.share_index.specs.Entries.{hashes}
use Rattle.share_index.proofs.EntryLaws.{hash_at}
use Rattle.share_index.proofs.filing.file_next.Goals as goal

pub returns-clause-filed : goal.returns-clause-filed
returns-clause-filed g c =
    let es = c.args.entries.now.items in let place = c.len-place.result in
    c.in_ok-file.ensures.filed (hashes g.K.Hashed.hash es) c.widen.ensures.filed
    (omega (arith, c.widen.ensures.places, c.requires.within, length-map es (λ e. g.K.Hashed.hash e.0)))
    (hash_at g.K.Hashed.hash es (length c.widen.new.buckets.before.items) place c.at.result.now c.hash.result (sym c.len-place.ensures.count)
    (omega (arith, c.widen.ensures.places, c.len-place.ensures.count, c.requires.within)) c.at.ensures c.hash.ensures)
