-- What the calls give, as the definitions have it.
--     rows_of p        the rows of a pairing, degree by degree
--     words_of ws      the degrees of class words, each with its class numbers
use Rattle.std.specs.Prelude.{ℕ, Bool, List, map}
use Rattle.class_solver.specs.declared.word.ClassWord.{ClassWord}
use Rattle.wu_classes.specs.declared.pairing.Pairing.{Pairing}

abbrev pub rows_of : Pairing → List (List (List Bool))
rows_of p = map (λ rows. map (λ row. row.items) rows.items) p.rows.items

abbrev pub words_of : List ClassWord → List (ℕ × List ℕ)
words_of ws = map (λ w. (w.degree, w.numbers.items)) ws
