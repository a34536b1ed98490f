use Rattle.std.proofs.Common.{ap, ◌∙◌, arith}
use Rattle.wu_classes.proofs.kept_values.kept_values.Goals as goal

pub loop-k-init : goal.loop-k-init
loop-k-init c = record {
  width = c.in_ok-row.ensures.width ∙ c.betti.ensures;
  done = λ i lt. absurd (omega (arith, lt));
  rest = λ i le. ap (λ z. z i) c.in_ok-row.ensures.zeros;
}
