-- Lines and their readings, by evaluation alone: each form of request once, and each kind of fault at several places; facets in
-- brackets at the end.
use Rattle.std.proofs.Common.{◌≡◌, ℕ, List, [], ◌∷◌, map, refl, codes, Result, Ok, Err, Some, None}
use Rattle.language.specs.Words.{words_from}
use Rattle.language.specs.declared.fault.FaultKind.{FaultKind}
use Rattle.language.specs.declared.fault.Fault.{Fault}
use Rattle.language.specs.declared.fault.FaultKind.TheVariants as kind
use Rattle.language.specs.Language as ask
use Rattle.language.specs.Arguments.{number_word, simplex_word, graded_word, body_word, zero_word, literal_word, numbered_word, name_word, vertex_word, caller_word}
use Rattle.language.specs.Brackets.{bracket_word}
use Rattle.language.specs.Grammar.{nothing, one, both, many, alone, form, chosen, requests, request, reading}

-- a request without a caller word, and one with
asks : ask.Request → Result ask.Asked Fault
asks r = Ok (record { caller = None; request = r })

says : ℕ → ask.Request → Result ask.Asked Fault
says k r = Ok (record { caller = Some k; request = r })

bad : FaultKind → ℕ → Result ask.Asked Fault
bad k column = Err (record { column = column; kind = k })

-- the class word of a degree with these numbers
abbrev class_of : ℕ → List ℕ → ask.CochainWord
class_of = ask.CochainWord.Classes

readings : List (List ℕ) → List (Result ask.Asked Fault)
readings ls = map reading ls

readings-steps :
    readings (codes "" ∷ codes " \t" ∷ codes "# note" ∷ codes "  %%" ∷ codes "@3" ∷ codes "@0 # cut" ∷ codes "attach 1-0"
    ∷ codes "facet 2 0 1" ∷ codes "2 0\t01" ∷ codes "@15 cut " ∷ codes "back 0" ∷ codes "see" ∷ codes "after 0" ∷ codes "hold 12345678901"
    ∷ codes "use a_Z" ∷ codes "drop two" ∷ codes "round 64" ∷ codes "@007 quit" ∷ [])
    ≡ asks ask.Blank ∷ asks ask.Blank ∷ asks ask.Blank ∷ asks ask.Blank ∷ says 3 ask.Blank ∷ says 0 ask.Blank
    ∷ asks (ask.Attach (0 ∷ 1 ∷ [])) ∷ asks (ask.Facet ((0 ∷ 1 ∷ 2 ∷ []) ∷ [])) ∷ asks (ask.Facet ((0 ∷ 1 ∷ 2 ∷ []) ∷ []))
    ∷ says 15 ask.Cut ∷ asks (ask.Back 0) ∷ asks ask.See ∷ asks (ask.After 0) ∷ asks (ask.Hold (codes "12345678901")) ∷ asks (ask.Take (codes "a_Z"))
    ∷ asks (ask.Release (codes "two")) ∷ asks (ask.Round 64) ∷ says 7 ask.Quit ∷ []
unfolding asks says readings words_from number_word simplex_word graded_word body_word zero_word literal_word numbered_word name_word vertex_word caller_word nothing one both many alone form chosen requests request reading
readings-steps = refl

readings-questions :
    readings (codes "count" ∷ codes "betti" ∷ codes "kind 1" ∷ codes "model 2-1" ∷ codes "classes 99" ∷ codes "cochain 01:{}"
    ∷ codes "chain 2:[2-1-0,0-1-2]" ∷ codes "delta 1:{3-1}" ∷ codes "boundary 0:*3+*3" ∷ codes "class 1:#2+#007" ∷ codes "bound 5:0"
    ∷ codes "cup 1:#0 2:0" ∷ codes "cupi 3 1:#0 2:0" ∷ codes "square 4 1:#0" ∷ codes "bockstein 1:#0" ∷ codes "same cup 1:0 2:0 3:0 4:0"
    ∷ codes "same square 9 1:0 2:0" ∷ codes "same bockstein 1:0 2:0" ∷ codes "cap 1:0 2:0" ∷ codes "closed" ∷ codes "links" ∷ codes "duality"
    ∷ codes "wu" ∷ codes "sw" ∷ codes "swnumber 2 01 2" ∷ [])
    ≡ map (λ q. asks (ask.Ask q))
    (ask.Count ∷ ask.Betti ∷ ask.KindOf (1 ∷ []) ∷ ask.ModelOf (1 ∷ 2 ∷ []) ∷ ask.Compute.Classes 99 ∷ ask.Show (ask.CochainWord.Literal 1 [])
    ∷ ask.ShowChain (ask.ChainWord.Literal 2 ((0 ∷ 1 ∷ 2 ∷ []) ∷ (0 ∷ 1 ∷ 2 ∷ []) ∷ [])) ∷ ask.Delta (ask.CochainWord.Literal 1 ((1 ∷ 3 ∷ []) ∷ []))
    ∷ ask.Boundary (ask.Cycles 0 (3 ∷ 3 ∷ [])) ∷ ask.ClassOf (class_of 1 (2 ∷ 7 ∷ [])) ∷ ask.Bound (class_of 5 [])
    ∷ ask.Cup (class_of 1 (0 ∷ [])) (class_of 2 []) ∷ ask.CupI 3 (class_of 1 (0 ∷ [])) (class_of 2 []) ∷ ask.Square 4 (class_of 1 (0 ∷ []))
    ∷ ask.Bockstein (class_of 1 (0 ∷ [])) ∷ ask.SameCup (class_of 1 []) (class_of 2 []) (class_of 3 []) (class_of 4 [])
    ∷ ask.SameSquare 9 (class_of 1 []) (class_of 2 []) ∷ ask.SameBockstein (class_of 1 []) (class_of 2 []) ∷ ask.Cap (class_of 1 []) (ask.Cycles 2 [])
    ∷ ask.Closed ∷ ask.Links ∷ ask.Duality ∷ ask.Wu ∷ ask.Sw ∷ ask.SwNumber (2 ∷ 1 ∷ 2 ∷ []) ∷ [])
unfolding asks readings words_from number_word simplex_word graded_word body_word zero_word literal_word numbered_word name_word vertex_word caller_word nothing one both many alone form chosen requests request reading
readings-questions = refl

readings-caller :
    readings
    (codes "@16 cut" ∷ codes "@ cut" ∷ codes "@x" ∷ codes "@1234567890" ∷ [])
    ≡ map (bad kind.Caller)
    (1 ∷ 1 ∷ 1 ∷ 1 ∷ [])
unfolding bad readings words_from number_word simplex_word graded_word body_word zero_word literal_word numbered_word name_word vertex_word caller_word nothing one both many alone form chosen requests request reading
readings-caller = refl

readings-request :
    readings
    (codes "fly" ∷ codes "samecup" ∷ codes "Cut" ∷ codes "@1 @2 cut" ∷ codes "cut\r" ∷ [])
    ≡ map (bad kind.Request)
    (1 ∷ 1 ∷ 1 ∷ 4 ∷ 1 ∷ [])
unfolding bad readings words_from number_word simplex_word graded_word body_word zero_word literal_word numbered_word name_word vertex_word caller_word nothing one both many alone form chosen requests request reading
readings-request = refl

readings-missing :
    readings
    (codes "attach" ∷ codes "attach  " ∷ codes "@3 attach\t" ∷ codes "facet" ∷ codes "back" ∷ codes "hold" ∷ codes "cap 1:#0" ∷ codes "same"
    ∷ codes "same cup 1:#0 1:#0 1:#0" ∷ codes "swnumber" ∷ [])
    ≡ map (bad kind.Missing)
    (7 ∷ 9 ∷ 11 ∷ 6 ∷ 5 ∷ 5 ∷ 9 ∷ 5 ∷ 24 ∷ 9 ∷ [])
unfolding bad readings words_from number_word simplex_word graded_word body_word zero_word literal_word numbered_word name_word vertex_word caller_word nothing one both many alone form chosen requests request reading
readings-missing = refl

readings-word :
    readings
    (codes "attach 0-" ∷ codes "attach -1" ∷ codes "attach 0--1" ∷ codes "attach 0-a-1234567890" ∷ codes "facet 0 1 x"
    ∷ codes "0x" ∷ codes "0-1" ∷ codes "back x" ∷ codes "round 1x" ∷ codes "classes 1:0" ∷ codes "hold a-b" ∷ codes "hold abcdefghijklmnopq"
    ∷ codes "class 1:{0-1" ∷ codes "class 1:{" ∷ codes "class 1:{,}" ∷ codes "class 1:{0:1}" ∷ codes "class 1::{}"
    ∷ codes "class 1:{}x" ∷ codes "class 1:00" ∷ codes "class 1:" ∷ codes "class :#0" ∷ codes "class 1"
    ∷ codes "class 1:#0+" ∷ codes "class 100:#" ∷ codes "class 1:*0" ∷ codes "class 1:[0]" ∷ codes "chain 1:#0"
    ∷ codes "chain 1:{0}" ∷ codes "cap 1:#0 1:#0" ∷ codes "cup 1:#0 x 1:#0 9" ∷ codes "same fly 1:#0"
    ∷ codes "same bockstein 1:#0 x" ∷ codes "swnumber 1 x" ∷ codes "0 1 2 3 4 5 6 7 8 9 10 11 12 13 14 x" ∷ [])
    ≡ map (bad kind.Word)
    (8 ∷ 8 ∷ 8 ∷ 8 ∷ 11 ∷ 1 ∷ 1 ∷ 6 ∷ 7 ∷ 9 ∷ 6 ∷ 6 ∷ 7 ∷ 7 ∷ 7 ∷ 7 ∷ 7 ∷ 7 ∷ 7 ∷ 7 ∷ 7 ∷ 7 ∷ 7 ∷ 7 ∷ 7 ∷ 7 ∷ 7 ∷ 7 ∷ 10 ∷ 10 ∷ 6
    ∷ 21 ∷ 12 ∷ 36 ∷ [])
unfolding bad readings words_from number_word simplex_word graded_word body_word zero_word literal_word numbered_word name_word vertex_word caller_word nothing one both many alone form chosen requests request reading
readings-word = refl

readings-number :
    readings
    (codes "attach 1234567890" ∷ codes "attach 1-1-1234567890" ∷ codes "facet 0 1234567890 0"
    ∷ codes "0 1 2 3 4 5 6 7 8 9 10 11 12 13 14 0123456789" ∷ codes "after 1234567890" ∷ codes "round 65" ∷ codes "round 0"
    ∷ codes "classes 100" ∷ codes "classes 0000000001" ∷ codes "class 1:#0+#0123456789" ∷ codes "class 100:#0"
    ∷ codes "class 100:{0-0}" ∷ codes "cupi 100 x" ∷ codes "same square 100 1:#0" ∷ codes "swnumber 0"
    ∷ codes "swnumber 1 100 x" ∷ [])
    ≡ map (bad kind.Number)
    (8 ∷ 8 ∷ 9 ∷ 36 ∷ 7 ∷ 7 ∷ 7 ∷ 9 ∷ 9 ∷ 7 ∷ 7 ∷ 7 ∷ 6 ∷ 13 ∷ 10 ∷ 12 ∷ [])
unfolding bad readings words_from number_word simplex_word graded_word body_word zero_word literal_word numbered_word name_word vertex_word caller_word nothing one both many alone form chosen requests request reading
readings-number = refl

readings-wide :
    readings
    (codes "attach 0-0-1-2-3-4-5-6-7-8-9-10-11-12-13-14" ∷ codes "facet 0 1 2 3 4 5 6 7 8 9 10 11 12 13 14 15"
    ∷ codes "0 1 2 3 4 5 6 7 8 9 10 11 12 13 14 0" ∷ codes "class 1:{0-0,0-1-2-3-4-5-6-7-8-9-10-11-12-13-14-15}" ∷ [])
    ≡ map (bad kind.Wide)
    (8 ∷ 42 ∷ 36 ∷ 7 ∷ [])
unfolding bad readings words_from number_word simplex_word graded_word body_word zero_word literal_word numbered_word name_word vertex_word caller_word nothing one both many alone form chosen requests request reading
readings-wide = refl

readings-repeat :
    readings
    (codes "attach 0-0" ∷ codes "attach 00-0" ∷ codes "facet 0 1 0" ∷ codes "1 01" ∷ codes "class 1:{1-1}"
    ∷ codes "boundary 3:[0-1,1-1]" ∷ [])
    ≡ map (bad kind.Repeat)
    (8 ∷ 8 ∷ 11 ∷ 3 ∷ 7 ∷ 10 ∷ [])
unfolding bad readings words_from number_word simplex_word graded_word body_word zero_word literal_word numbered_word name_word vertex_word caller_word nothing one both many alone form chosen requests request reading
readings-repeat = refl

readings-extra :
    readings
    (codes "attach 0 1" ∷ codes "cut now" ∷ codes "quit  x y" ∷ codes "hold a b" ∷ codes "betti 1"
    ∷ codes "cup 1:#0 1:#0 1:#0" ∷ codes "same cup 1:#0 1:#0 1:#0 1:#0 x" ∷ [])
    ≡ map (bad kind.Extra)
    (10 ∷ 5 ∷ 7 ∷ 8 ∷ 7 ∷ 15 ∷ 30 ∷ [])
unfolding bad readings words_from number_word simplex_word graded_word body_word zero_word literal_word numbered_word name_word vertex_word caller_word nothing one both many alone form chosen requests request reading
readings-extra = refl

readings-brackets :
    readings
    (codes "[[1, 2, 3], [1, 2, 4]]" ∷ codes "  [\t[ 003,1 ,2 ]\t] " ∷ codes "@1 [[7],[7],[0,7]]"
    ∷ codes "[[0,1,2,3,4,5,6,7,8,9,10,11,12,13,14]]" ∷ [])
    ≡ asks (ask.Facet ((1 ∷ 2 ∷ 3 ∷ []) ∷ (1 ∷ 2 ∷ 4 ∷ []) ∷ [])) ∷ asks (ask.Facet ((1 ∷ 2 ∷ 3 ∷ []) ∷ []))
    ∷ says 1 (ask.Facet ((7 ∷ []) ∷ (7 ∷ []) ∷ (0 ∷ 7 ∷ []) ∷ []))
    ∷ asks (ask.Facet ((0 ∷ 1 ∷ 2 ∷ 3 ∷ 4 ∷ 5 ∷ 6 ∷ 7 ∷ 8 ∷ 9 ∷ 10 ∷ 11 ∷ 12 ∷ 13 ∷ 14 ∷ []) ∷ [])) ∷ []
unfolding asks says readings words_from bracket_word one caller_word request reading
readings-brackets = refl

-- what is no list: no part, an empty part, an open one, one byte too many, a number in two
readings-brackets-word :
    readings
    (codes "[" ∷ codes "[]" ∷ codes "[[]]" ∷ codes "[[1,2,3],[]]" ∷ codes "[[1,2,3]" ∷ codes "[[1,2,3" ∷ codes "[1,2,3]" ∷ codes "[[1]],"
    ∷ codes "[[1]]]" ∷ codes "[[1]] x" ∷ codes "[[1],]" ∷ codes "[,[1]]" ∷ codes "[[1][2]]" ∷ codes "[[1],,[2]]" ∷ codes "[[1,]]"
    ∷ codes "[[1 2]]" ∷ codes "[[1-2]]" ∷ codes "[[1]x]" ∷ codes "[[1],[2]] [[3]]" ∷ codes "[[1234567890,1],[1,1],x]" ∷ codes " [[1,1]]1"
    ∷ codes "@1 [ 1" ∷ [])
    ≡ map (bad kind.Word)
    (1 ∷ 1 ∷ 1 ∷ 1 ∷ 1 ∷ 1 ∷ 1 ∷ 1 ∷ 1 ∷ 1 ∷ 1 ∷ 1 ∷ 1 ∷ 1 ∷ 1 ∷ 1 ∷ 1 ∷ 1 ∷ 1 ∷ 1 ∷ 2 ∷ 4 ∷ [])
unfolding bad readings words_from bracket_word one caller_word request reading
readings-brackets-word = refl

-- a number too long, even behind too many vertices and a repeated one; too many, even behind a repeated one; a repeated one
readings-brackets-faults :
    readings
    (codes "[[1234567890]]" ∷ codes "[[1,1],[0,1,2,3,4,5,6,7,8,9,10,11,12,13,14,15],[0000000001]]"
    ∷ codes "[[1,1],[0,1,2,3,4,5,6,7,8,9,10,11,12,13,14,0]]" ∷ codes "@1 [[1,1]]" ∷ codes "[[1],[2, 02]]" ∷ [])
    ≡ bad kind.Number 1 ∷ bad kind.Number 1 ∷ bad kind.Wide 1 ∷ bad kind.Repeat 4 ∷ bad kind.Repeat 1 ∷ []
unfolding bad readings words_from bracket_word one caller_word request reading
readings-brackets-faults = refl
