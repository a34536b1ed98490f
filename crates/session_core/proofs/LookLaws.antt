-- Runs of equal lengths.
--     lengths-again      the last length once more
use Rattle.std.proofs.Common.{◌≡◌, ℕ, zero, suc, ◌+◌, List, [], ◌∷◌, ◌++◌, length, refl, sym, ap, ◌∙◌, arith, append_assoc, append-nil, add-one}
use Rattle.std.specs.Prelude.{replicate, slice_index_or, slice_set}
use Rattle.session_core.specs.declared.looks.Run.{Run}
use Rattle.session_core.specs.Looked.{lengths_of}

replicate-again : (n x : ℕ) → replicate (n + 1) x ≡ replicate n x ++ x ∷ []
replicate-again n x = ap (λ (m : ℕ). replicate m x) (add-one n) ∙ at n
  where
    at : (n : ℕ) → x ∷ replicate n x ≡ replicate n x ++ x ∷ []
    at zero = refl
    at (suc n) = ap (λ (xs : List ℕ). x ∷ xs) (at n)

pub lengths-again : (rs : List Run) (k : ℕ) (r : Run) → k + 1 ≡ length rs → slice_index_or rs k r ≡ r
    → lengths_of (slice_set rs k (record { length = r.length; times = r.times + 1 })) ≡ lengths_of rs ++ r.length ∷ []
lengths-again [] k r last is = absurd (omega (arith, last))
lengths-again (q ∷ []) zero r last is =
    append-nil (replicate (r.times + 1) r.length) ∙ replicate-again r.times r.length
    ∙ ap (λ (p : Run). replicate p.times p.length ++ r.length ∷ []) (sym is)
    ∙ ap (λ (xs : List ℕ). xs ++ r.length ∷ []) (sym (append-nil (replicate q.times q.length)))
lengths-again (q ∷ p ∷ rs) zero r last is = absurd (omega (arith, last))
lengths-again (q ∷ rs) (suc k) r last is =
    ap (λ (xs : List ℕ). replicate q.times q.length ++ xs) (lengths-again rs k r (omega (arith, last)) is)
    ∙ sym (append_assoc (replicate q.times q.length) (lengths_of rs) (r.length ∷ []))
