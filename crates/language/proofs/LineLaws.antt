-- Laws of the lines of a text.
--     lines-empty       no bytes, no lines
--     lines-last        bytes without a line feed are one line
--     lines-first       the bytes before the first line feed are the first line, but for a carriage return at their end
use Rattle.std.proofs.Common.{◌≡◌, ℕ, ◌<◌, false, cond, List, [], ◌∷◌, ◌++◌, length, refl, ap, ◌∙◌, arith, eqb}
use Rattle.std.specs.List.{All, slice_split}
use Rattle.std.specs.Str.Lines.{lines_of_parts, strip_carriage_return}
use Rattle.std.proofs.lemmas.List.Splits.{slice_split_none, slice_split_at, length-slice_split}
use Rattle.std.proofs.Math.Dec.{eqb-suc-zero}
use Rattle.language.specs.Lines.{lines}

pub lines-empty : lines [] ≡ []
unfolding lines
lines-empty = refl

pub lines-last : (b : List ℕ) → 0 < length b → All (λ x. eqb x 10 ≡ false) b → lines b ≡ b ∷ []
unfolding lines
lines-last [] some none = absurd (omega arith)
lines-last (x ∷ b) some none = ap lines_of_parts (slice_split_none (λ y. eqb y 10) (x ∷ b) none) ∙ ap (λ t. cond t [] ((x ∷ b) ∷ [])) (eqb-suc-zero (length b))

pub lines-first : (l rest : List ℕ) → All (λ x. eqb x 10 ≡ false) l → lines (l ++ 10 ∷ rest) ≡ strip_carriage_return l ∷ lines rest
unfolding lines
lines-first l rest none = ap lines_of_parts (slice_split_at (λ y. eqb y 10) l 10 rest none refl) ∙ by (slice_split (λ y. eqb y 10) rest) (omega (arith, length-slice_split (λ y. eqb y 10) rest))
  where
    by : (parts : List (List ℕ)) → 0 < length parts → lines_of_parts (l ∷ parts) ≡ strip_carriage_return l ∷ lines_of_parts parts
    by [] some = absurd (omega arith)
    by (part ∷ parts) some = refl
