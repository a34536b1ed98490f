use Rattle.std.specs.Prelude.{◌≡◌, ℕ, ◌<◌, false}
use Rattle.elimination.specs.Rows.{entry}
use Rattle.elimination.proofs.row.Row.first_one.Given as goal

abbrev pub invariant-loop-q : goal.invariant-loop-q
invariant-loop-q l = (p : ℕ) → p < l.q → entry l.self p ≡ false
