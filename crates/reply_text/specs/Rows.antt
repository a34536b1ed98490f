-- Rows of bits, as the definitions have them.
--     rows_in rows             the rows, each of them the list of its bits
--     pairings_in pairings     the rows of each of the pairings
use Rattle.std.specs.Prelude.{Bool, List, map, Vec}
use Rattle.std.specs.declared.alloc.Global.{Global}

abbrev pub rows_in : List (Vec Bool Global) → List (List Bool)
rows_in rows = map (λ row. row.items) rows

abbrev pub pairings_in : List (Vec (Vec Bool Global) Global) → List (List (List Bool))
pairings_in pairings = map (λ rows. rows_in rows.items) pairings
