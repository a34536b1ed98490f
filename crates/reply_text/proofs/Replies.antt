-- Lines of replies.
--     line-none     where nothing was said, there is no line
--     line-some     where something was said, a line feed ends it
use Rattle.std.proofs.Common.{◌≡◌, ℕ, List, [], ◌∷◌, ◌++◌, length, ap, ◌∙◌, arith, append_assoc, append-nil, length-append}
use Rattle.transcript.specs.Replies.{line_of}

pub line-none : (old words out : List ℕ) → out ≡ old ++ words → length out ≡ length old → out ≡ old ++ line_of words
line-none old [] out e n = e
line-none old (c ∷ cs) out e n = absurd (omega (arith, ap length e, n, length-append old (c ∷ cs)))

pub line-some : (old words out : List ℕ) → out ≡ old ++ words → ¬ (length out ≡ length old) → out ++ 10 ∷ [] ≡ old ++ line_of words
line-some old [] out e n = absurd (n (ap length (e ∙ append-nil old)))
line-some old (c ∷ cs) out e n = ap (λ x. x ++ 10 ∷ []) e ∙ append_assoc old (c ∷ cs) (10 ∷ [])
