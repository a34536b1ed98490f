use Rattle.std.proofs.Common.{[], arith}
use Rattle.elimination.specs.Rows.{Given}
use Rattle.characteristic_classes.proofs.DegeneracyLaws.{none-degenerate}
use Rattle.wu_classes.proofs.dual.pair_classes.Goals as goal

no_rows : Given
no_rows = record { width = 0; rows = [] }

pub returns-clause-dual : goal.returns-clause-dual
returns-clause-dual c =
    let T = c.in_ok-dim.ensures.top in
    record {
      top = T;
      none = none-degenerate c.args.m.now (λ p le. (c.in_ok-bases.ensures.each p no_rows (omega (arith, le, T.top))).free);
      count = c.in_ok-bases.ensures.count;
      each = c.in_ok-bases.ensures.each;
    }
