use Rattle.std.proofs.Common.{◌+◌, length, ap, ◌∙◌, arith}
use Rattle.std.proofs.lemmas.List.{length-map}
use Rattle.share_index.specs.Entries.{hashes}
use Rattle.share_index.proofs.EntryLaws.{hash_at}
use Rattle.share_index.proofs.filing.widen.Goals as goal

pub loop-place-preserved : goal.loop-place-preserved
loop-place-preserved g c =
    let es = c.args.entries.now.items in let I = c.loop-place.invariant in
    record {
      places = c.in_ok-file.ensures.places ∙ ap (λ n. n + 1) I.places;
      buckets = c.file.ensures.buckets ∙ I.buckets;
      filed = c.in_ok-file.ensures.filed (hashes g.K.Hashed.hash es) I.filed (omega (arith, I.places, c.loop-place-test.true, c.len-place-end.ensures.count, c.requires.within, length-map es (λ e. g.K.Hashed.hash e.0)))
          (hash_at g.K.Hashed.hash es (length c.loop-place.wider.before.items) c.loop-place.place c.at.result.now c.hash.result I.places (omega (arith, I.places, c.loop-place-test.true, c.len-place-end.ensures.count, c.requires.within)) c.at.ensures c.hash.ensures);
    }
