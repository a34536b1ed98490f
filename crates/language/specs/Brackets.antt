-- Facets in brackets: `[`, one or more parts joined by `,`, and `]`. A part is `[`, one or more runs joined by `,`, and `]`.
-- Blanks and tabs may stand between any two of these, and behind them all.
--     begins c w, behind w     whether behind gaps the byte c stands; what stands behind the first byte that is no gap
--     run w, is_numeral w      the bytes behind gaps, up to a gap; whether they are a run, with gaps alone behind it
--     words w                  the bytes behind the two bytes that begin a part, parted at each `,`
--     is_part c w              the byte c, `[` and runs joined by `,`: a part without its `]`, behind the byte c
--     are_parts c ws           parts, the first of them behind c, and the others behind `,`
--     numbers w                the numbers that the runs of a part write
--     are_short w, are_narrow w, are_distinct w     the tests of the runs and numbers of a part
--     facets_word ws           the simplices of these numbers, part by part
--     list_word ws             the same of parts with two ends behind them, of gaps alone
--     bracket_word b           the same of a list, parted at each `]`: the last end is what stands behind it
-- Everything from the first `[` to the end of the line is one word, so a fault in it stands at this `[`.
use Rattle.std.specs.Prelude.{ℕ, ◌-◌, Bool, true, ◌&&◌, ◌==◌, List, [], ◌∷◌, map, length, take, drop, nat_le, slice_index, Result, Ok}
use Rattle.std.specs.List.{list_all, prefix_len, position_or_len, before_first}
use Rattle.language.specs.declared.fault.FaultKind.{FaultKind}
use Rattle.language.specs.declared.fault.FaultKind.TheVariants as kind
use Rattle.language.specs.Words.{is_gap}
use Rattle.language.specs.Arguments.{provided, parts, is_run, is_short, value, in_order, is_distinct, most}

abbrev pub is_blank : List ℕ → Bool
is_blank w = list_all is_gap w

abbrev pub past_gaps : List ℕ → List ℕ
past_gaps w = drop (prefix_len is_gap w) w

abbrev pub begins : ℕ → List ℕ → Bool
begins c w = slice_index (past_gaps w) 0 == c

abbrev pub behind : List ℕ → List ℕ
behind w = drop 1 (past_gaps w)

abbrev pub run : List ℕ → List ℕ
run w = before_first is_gap (past_gaps w)

abbrev pub is_numeral : List ℕ → Bool
is_numeral w = is_run (run w) && is_blank (drop (position_or_len is_gap (past_gaps w)) (past_gaps w))

abbrev pub words : List ℕ → List (List ℕ)
words w = parts 44 (behind (behind w))

abbrev pub is_part : ℕ → List ℕ → Bool
is_part c w = begins c w && (begins 91 (behind w) && list_all is_numeral (words w))

abbrev pub are_parts : ℕ → List (List ℕ) → Bool
are_parts c [] = true
are_parts c (w ∷ ws) = is_part c w && are_parts 44 ws

abbrev pub numbers : List ℕ → List ℕ
numbers w = map (λ r. value (run r)) (words w)

abbrev pub are_short : List ℕ → Bool
are_short w = list_all (λ r. is_short (run r)) (words w)

abbrev pub are_narrow : List ℕ → Bool
are_narrow w = nat_le (length (words w)) most

abbrev pub are_distinct : List ℕ → Bool
are_distinct w = is_distinct (numbers w)

abbrev pub facets_word : List (List ℕ) → Result (List (List ℕ)) FaultKind
facets_word ws =
    provided (are_parts 91 ws) kind.Word
    (provided (list_all are_short ws) kind.Number
    (provided (list_all are_narrow ws) kind.Wide
    (provided (list_all are_distinct ws) kind.Repeat (Ok (map (λ w. in_order (numbers w)) ws)))))

abbrev pub list_word : List (List ℕ) → Result (List (List ℕ)) FaultKind
list_word ws =
    provided (nat_le 3 (length ws) && list_all is_blank (drop (length ws - 2) ws)) kind.Word
    (facets_word (take (length ws - 2) ws))

unfoldable pub bracket_word : List ℕ → Result (List (List ℕ)) FaultKind
bracket_word b = list_word (parts 93 b)
