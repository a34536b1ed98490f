-- Lists in words, and the readings of their parts.
--     is_behind w    whether a run stands behind the first byte of w
--     made list      the simplices that the words of a list stand for, once the shapes, numbers and widths in them are right; a
--                    vertex may still stand twice in one of them
--     told k a       the fault k, or a where there is none
--     graver k j     of a fault and perhaps an earlier one the one that is told
--     number_of w, numbers_of ws     the number that a run with gaps around it writes; those of the runs of a part
--     facet_of c w   the facet of a part behind the byte c
--     next_mark ws   the byte before the part that follows these
use Rattle.std.specs.Prelude.{ℕ, Bool, List, [], ◌∷◌, map, drop, length, nat_le, Option, Some, None, Result, Ok, Err}
use Rattle.std.specs.List.{list_all}
use Rattle.language.specs.declared.fault.FaultKind.{FaultKind}
use Rattle.language.specs.declared.fault.FaultKind.TheVariants.{Word, Number, Wide, Repeat}
use Rattle.language.specs.Arguments.{provided, is_run, is_short, value, most, is_distinct, in_order, vertices, listed}
use Rattle.language.specs.Brackets.{run, is_numeral, is_part, numbers, are_short, are_narrow, are_distinct}

abbrev pub is_simple : List ℕ → Bool
is_simple s = is_distinct (vertices s)

abbrev pub made : List ℕ → Result (List (List ℕ)) FaultKind
made list = provided (list_all is_simple (listed list)) Repeat (Ok (map (λ s. in_order (vertices s)) (listed list)))

abbrev pub is_behind : List ℕ → Bool
is_behind w = is_run (drop 1 w)

abbrev pub told : {A : Type 0} → Option FaultKind → A → Result A FaultKind
told None a = Ok a
told (Some k) a = Err k

abbrev pub graver : FaultKind → Option FaultKind → FaultKind
graver Word j = Word
graver Number (Some Word) = Word
graver Number _ = Number
graver Wide (Some Word) = Word
graver Wide (Some Number) = Number
graver Wide _ = Wide
graver k None = k
graver k (Some j) = j

abbrev pub number_of : List ℕ → Result ℕ FaultKind
number_of w = provided (is_numeral w) Word (provided (is_short (run w)) Number (Ok (value (run w))))

abbrev pub numbers_of : List (List ℕ) → Result (List ℕ) FaultKind
numbers_of ws =
    provided (list_all is_numeral ws) Word
    (provided (list_all (λ r. is_short (run r)) ws) Number
    (provided (nat_le (length ws) most) Wide (Ok (map (λ r. value (run r)) ws))))

abbrev pub facet_of : ℕ → List ℕ → Result (List ℕ) FaultKind
facet_of c w =
    provided (is_part c w) Word
    (provided (are_short w) Number
    (provided (are_narrow w) Wide (provided (are_distinct w) Repeat (Ok (in_order (numbers w))))))

abbrev pub next_mark : List (List ℕ) → ℕ
next_mark [] = 91
next_mark (w ∷ ws) = 44
