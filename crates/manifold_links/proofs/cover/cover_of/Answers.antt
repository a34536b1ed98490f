use Rattle.std.proofs.Common.{◌∙◌, arith}
use Rattle.manifold_links.specs.Covers.{is_covered}
use Rattle.manifold_links.proofs.CountedLaws.{counted-none}
use Rattle.manifold_links.proofs.CoverLaws.{uncovered-none}
use Rattle.manifold_links.proofs.cover.cover_of.Goals as goal

pub loop-id-init : goal.loop-id-init
loop-id-init c =
    let K = c.args.k.now in
    record {
      down = counted-none K (is_covered K) c.len-id.result c.in_ok-counts.counts.items (omega (arith, c.len-id.ensures.count)) c.in_ok-counts.ensures.zero;
      fits = c.in_ok-counts.ensures.fits ∙ c.len.ensures.count;
      within = omega (arith, c.len-id.ensures.count);
      first = uncovered-none K c.len-id.result (omega (arith, c.len-id.ensures.count));
    }
