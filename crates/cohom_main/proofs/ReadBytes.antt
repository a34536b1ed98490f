-- The bytes that were read hold no cause for the lines to end: no line too long, and no line too many.
--     Continues read rest n     however the bytes that were read go on, the lines end as they do from the n-th line on; or nothing is left
--     Continues-first           with one more line that has its line feed
--     part-ending               a part of a line ends by the end of the input
use Rattle.std.proofs.Common.{◌≡◌, ℕ, ◌+◌, ◌<◌, ◌⊎◌, List, [], ◌∷◌, ◌++◌, length, sym, ap, ◌∙◌, arith, append_assoc, length-append, inl, inr}
use Rattle.language.specs.Streams.{stream, lines_limit, Input}
use Rattle.language.proofs.StreamLaws.{stream-empty, stream-first, stream-last}
use Rattle.cohom_edge.specs.Readings.{FirstLine, Unfinished}

abbrev pub Continues : List ℕ → List ℕ → ℕ → Type 0
Continues read rest n = ((x : List ℕ) → (stream 0 (read ++ x)).ending ≡ (stream n x).ending) ⊎ (rest ≡ [])

pub Continues-first : (read rest l y : List ℕ) (n : ℕ) → n < lines_limit → Continues read rest n → (f : FirstLine rest l y) → Continues (read ++ (f.part ++ 10 ∷ [])) y (n + 1)
Continues-first read rest l y n room (inl goes) f = inl (λ x.
    ap (λ z. (stream 0 z).ending) (append_assoc read (f.part ++ 10 ∷ []) x ∙ ap (λ z. read ++ z) (append_assoc f.part (10 ∷ []) x))
    ∙ goes (f.part ++ 10 ∷ x)
    ∙ ap (λ s. s.ending) (stream-first n f.part x room f.no_feed f.short))
Continues-first read rest l y n room (inr none) f =
    absurd (omega (arith, ap length (sym none ∙ f.whole), length-append f.part (10 ∷ y)))

pub part-ending : (n : ℕ) (b : List ℕ) → Unfinished n b → (stream n b).ending ≡ Input
part-ending n [] part = ap (λ s. s.ending) (stream-empty n)
part-ending n (x ∷ b) part = by part.place
  where
    by : (n < lines_limit) ⊎ (x ∷ b ≡ []) → (stream n (x ∷ b)).ending ≡ Input
    by (inl room) = ap (λ s. s.ending) (stream-last n (x ∷ b) room (omega arith) part.no_feed part.short)
    by (inr none) = absurd (cc none)
