-- The words that may stand behind a request word. Each definition reads one word at one kind of place, or says
-- which kind of fault it is there: first its shape is judged, then its numbers, then how many vertices its simplices
-- have, then whether a vertex stands in one of them twice.
--     is_run w, value w        w is one or more digits; the number that they write
--     simplex_word w           runs joined by `-`: the ascending list of their values
--     number_word low high w   a run: its value, from low to high
--     cochain_word w           `P:{S,S,..}`, or `P:0`, or `P:#K+#K+..`
--     chain_word w             `P:[S,S,..]`, or `P:0`, or `P:*K+*K+..`
--     name_word w              1 to 16 letters, digits and `_`
--     vertex_word before w     a run: a vertex behind the vertices before it, in a facet of one word a vertex
--     caller_word w            `@` and a run: a caller
-- A run that counts is at most nine digits long, whatever it writes.
use Rattle.std.specs.Prelude.{ℕ, ◌+◌, ◌-◌, ◌*◌, Bool, true, cond, not, ◌&&◌, ◌||◌, ◌==◌, List, [], ◌∷◌, map, length, drop, nat_lt, nat_le, codes, slice_index, slice_range, Result, Ok, Err}
use Rattle.std.specs.List.{slice_split, list_all, list_any, fold, before_first, after_first}
use Rattle.homology.specs.Simplices.{same_list}
use Rattle.language.specs.declared.fault.FaultKind.{FaultKind}
use Rattle.language.specs.declared.fault.FaultKind.TheVariants as kind
use Rattle.language.specs.Language.{CochainWord, ChainWord}

-- the rest, where the test passes
abbrev pub provided : {A : Type 0} → Bool → FaultKind → Result A FaultKind → Result A FaultKind
provided test k rest = cond test rest (Err k)

-- the parts of w between the bytes c
abbrev pub parts : ℕ → List ℕ → List (List ℕ)
parts c w = slice_split (λ x. x == c) w

abbrev pub is_digit : ℕ → Bool
is_digit c = nat_le 48 c && nat_le c 57

abbrev pub is_run : List ℕ → Bool
is_run w = nat_lt 0 (length w) && list_all is_digit w

abbrev pub is_short : List ℕ → Bool
is_short w = nat_le (length w) 9

abbrev pub value : List ℕ → ℕ
value w = fold (λ n c. 10 * n + (c - 48)) 0 w

abbrev pub lies_in : ℕ → ℕ → List ℕ → Bool
lies_in low high w = is_short w && (nat_le low (value w) && nat_le (value w) high)

unfoldable pub number_word : ℕ → ℕ → List ℕ → Result ℕ FaultKind
number_word low high w = provided (is_run w) kind.Word (provided (lies_in low high w) kind.Number (Ok (value w)))

-- a degree, an index, or the k of Sq^k
abbrev pub degree_word : List ℕ → Result ℕ FaultKind
degree_word = number_word 0 99

-- the numbers in ascending order, each put before the first that is not less
abbrev pub put : ℕ → List ℕ → List ℕ
put v [] = v ∷ []
put v (w ∷ ws) = cond (nat_le v w) (v ∷ w ∷ ws) (w ∷ put v ws)

abbrev pub in_order : List ℕ → List ℕ
in_order [] = []
in_order (v ∷ vs) = put v (in_order vs)

abbrev pub is_distinct : List ℕ → Bool
is_distinct [] = true
is_distinct (v ∷ vs) = not (list_any (λ w. w == v) vs) && is_distinct vs

-- the most vertices that a simplex has
abbrev pub most : ℕ
most = 15

-- the runs of a word that is to be one simplex
abbrev pub vertex_runs : List ℕ → List (List ℕ)
vertex_runs w = parts 45 w

abbrev pub has_shape : List ℕ → Bool
has_shape w = list_all is_run (vertex_runs w)

abbrev pub has_numbers : List ℕ → Bool
has_numbers w = list_all is_short (vertex_runs w)

abbrev pub is_narrow : List ℕ → Bool
is_narrow w = nat_le (length (vertex_runs w)) most

abbrev pub vertices : List ℕ → List ℕ
vertices w = map value (vertex_runs w)

-- what a word stands for whose shape is right, with the words of its simplices
abbrev pub judged : {A : Type 0} → Bool → List (List ℕ) → A → Result A FaultKind
judged numbers simplices stands =
    provided (numbers && list_all has_numbers simplices) kind.Number
    (provided (list_all is_narrow simplices) kind.Wide
    (provided (list_all (λ s. is_distinct (vertices s)) simplices) kind.Repeat (Ok stands)))

unfoldable pub simplex_word : List ℕ → Result (List ℕ) FaultKind
simplex_word w = provided (has_shape w) kind.Word (judged true (w ∷ []) (in_order (vertices w)))

-- a degree with simplices, or with numbers: what a word of a degree and a body stands for
pub data Graded : Type 0 where
  Literal : ℕ → List (List ℕ) → Graded
  Numbered : ℕ → List ℕ → Graded

-- the bytes around a list of simplices, and the one before each number
pub record Signs : Type 0 where
  pub left : ℕ
  pub right : ℕ
  pub mark : ℕ

-- the words of simplices joined by `,`
abbrev pub listed : List ℕ → List (List ℕ)
listed [] = []
listed (c ∷ b) = parts 44 (c ∷ b)

unfoldable pub literal_word : List ℕ → List ℕ → Result Graded FaultKind
literal_word degree b =
    provided (list_all has_shape (listed b)) kind.Word
    (judged (lies_in 0 99 degree) (listed b) (Literal (value degree) (map (λ s. in_order (vertices s)) (listed b))))

-- a mark and a run
abbrev pub is_item : ℕ → List ℕ → Bool
is_item mark w = slice_index w 0 == mark && is_run (drop 1 w)

unfoldable pub numbered_word : ℕ → List ℕ → List ℕ → Result Graded FaultKind
numbered_word mark degree b =
    provided (list_all (is_item mark) (parts 43 b)) kind.Word
    (judged (lies_in 0 99 degree && list_all (λ w. is_short (drop 1 w)) (parts 43 b)) []
    (Numbered (value degree) (map (λ w. value (drop 1 w)) (parts 43 b))))

unfoldable pub zero_word : List ℕ → Result Graded FaultKind
zero_word degree = judged (lies_in 0 99 degree) [] (Numbered (value degree) [])

abbrev pub is_enclosed : Signs → List ℕ → Bool
is_enclosed signs b =
    nat_lt 1 (length b) && (slice_index b 0 == signs.left && slice_index b (length b - 1) == signs.right)

unfoldable pub body_word : Signs → List ℕ → List ℕ → Result Graded FaultKind
body_word signs degree b =
    cond (same_list b (codes "0")) (zero_word degree)
    (cond (is_enclosed signs b) (literal_word degree (slice_range b 1 (length b - 1))) (numbered_word signs.mark degree b))

-- the degree ends at the first `:`
unfoldable pub graded_word : Signs → List ℕ → Result Graded FaultKind
graded_word signs w =
    provided (is_run (before_first (λ c. c == 58) w)) kind.Word
    (body_word signs (before_first (λ c. c == 58) w) (after_first (λ c. c == 58) w))

abbrev pub as_cochain : Result Graded FaultKind → Result CochainWord FaultKind
as_cochain (Ok (Literal p simplices)) = Ok (CochainWord.Literal p simplices)
as_cochain (Ok (Numbered p numbers)) = Ok (CochainWord.Classes p numbers)
as_cochain (Err k) = Err k

abbrev pub as_chain : Result Graded FaultKind → Result ChainWord FaultKind
as_chain (Ok (Literal p simplices)) = Ok (ChainWord.Literal p simplices)
as_chain (Ok (Numbered p numbers)) = Ok (ChainWord.Cycles p numbers)
as_chain (Err k) = Err k

abbrev pub cochain_word : List ℕ → Result CochainWord FaultKind
cochain_word w = as_cochain (graded_word (record { left = 123; right = 125; mark = 35 }) w)

abbrev pub chain_word : List ℕ → Result ChainWord FaultKind
chain_word w = as_chain (graded_word (record { left = 91; right = 93; mark = 42 }) w)

abbrev pub is_letter : ℕ → Bool
is_letter c = (nat_le 65 c && nat_le c 90) || (nat_le 97 c && nat_le c 122) || is_digit c || c == 95

unfoldable pub name_word : List ℕ → Result (List ℕ) FaultKind
name_word w = provided (nat_lt 0 (length w) && (nat_le (length w) 16 && list_all is_letter w)) kind.Word (Ok w)

unfoldable pub vertex_word : List ℕ → List ℕ → Result ℕ FaultKind
vertex_word before w =
    provided (is_run w) kind.Word
    (provided (is_short w) kind.Number
    (provided (nat_lt (length before) most) kind.Wide
    (provided (not (list_any (λ v. v == value w) before)) kind.Repeat (Ok (value w)))))

unfoldable pub caller_word : List ℕ → Result ℕ FaultKind
caller_word w = provided (is_run (drop 1 w) && lies_in 0 15 (drop 1 w)) kind.Caller (Ok (value (drop 1 w)))
