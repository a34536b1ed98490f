use Rattle.std.proofs.Common.{◌∷◌, [], ◌-◌, sym, ap, ◌∙◌, arith}
use Rattle.characteristic_classes.specs.Pairings.{cocycle}
use Rattle.wu_classes.proofs.Lists.{square-past}
use Rattle.wu_classes.proofs.wu_words.values_of_squares.Goals as goal

pub loop-number-init : goal.loop-number-init
loop-number-init c = record {
  width = c.in_ok-values.ensures.width ∙ c.betti.ensures;
  done = λ i lt. absurd (omega (arith, lt));
  rest = λ i le. ap (λ z. z i) c.in_ok-values.ensures.zeros;
}

-- squares with an exponent above the degree are empty
pub returns-then-k-n-clause-values : goal.returns-then-k-n-clause-values
returns-then-k-n-clause-values c =
    let K = c.args.m.now in
    let q = c.args.n - c.args.k in
    λ l lt.
    ap (λ z. z l) c.in_ok-values.ensures.zeros ∙ sym (square-past K c.args.k q (cocycle K q (l ∷ [])) (omega arith))
