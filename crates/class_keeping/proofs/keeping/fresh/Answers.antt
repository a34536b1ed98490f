use Rattle.std.proofs.Common.{length, ap, arith}
use Rattle.cohomology.proofs.Naming.{betti-essentials}
use Rattle.class_cache.specs.Kept.{own}
use Rattle.class_keeping.proofs.KeepLaws.{rows-none}
use Rattle.class_keeping.proofs.keeping.fresh.Goals as goal

pub returns : goal.returns
returns c = record {
  complex = c.complex.ensures.complex;
  essential = c.in_ok-essential.ensures;
  cocycles = rows-none (own c.args.m.now c.args.degree) c.in_ok-cocycles.cocycles.items c.in_ok-cocycles.ensures.none;
  count = omega (
    arith,
    c.in_ok-cocycles.ensures.count,
    c.len.ensures,
    c.in_ok-essential.essential.ok.0,
    ap length c.in_ok-essential.ensures,
    betti-essentials c.args.m.now c.args.degree,
  );
  cycles = tt;
  boundaries = tt;
}
