use Rattle.std.proofs.Common.{ap, ◌∙◌, arith}
use Rattle.wu_classes.proofs.columns.column.Goals as goal

pub loop-j-init : goal.loop-j-init
loop-j-init c = record {
  width = c.in_ok-column.ensures.width ∙ c.len.ensures.count;
  done = λ i lt. absurd (omega (arith, lt));
  rest = λ i le. ap (λ z. z i) c.in_ok-column.ensures.zeros;
}
