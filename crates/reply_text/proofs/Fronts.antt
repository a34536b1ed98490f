-- A list that only grows begins with what it held.
use Rattle.std.proofs.Common.{ℕ, List, ◌++◌, ap, ◌∙◌, append_assoc}
use Rattle.reply_text.specs.Kept.{BeginsWith}

-- what begins with a list that begins with xs begins with xs
pub BeginsWith-trans : (xs ys zs : List ℕ) → BeginsWith ys xs → BeginsWith zs ys → BeginsWith zs xs
BeginsWith-trans xs ys zs p q = (p.0 ++ q.0, q.1 ∙ (ap (λ w. w ++ q.0) p.1 ∙ append_assoc xs p.0 q.0))
