-- Tables: a list of items, and whether one more can be pushed without memory.
--   Table T      the items, and the room
--   table xs r   the table of the items xs with the room r
--   held t       the items of a tree that may be missing
--   most         the most items that a table may have
use Rattle.std.specs.Prelude.{ℕ, Bool, List, [], Option, Some, None, refl}
use Rattle.std.specs.Coded.{Coded, code_by, coded×, coded_list, coded_bool}

-- What a contract sees of a table.
pub record Table (X : Type 0) : Type 0 where
  pub items : List X
  pub room : Bool

module _ {X : Type 0} where
  abbrev pub table : List X → Bool → Table X
  table xs r = record { items = xs; room = r }

  abbrev pub table_code : Coded X → Coded (Table X)
  table_code c = code_by (List X × Bool) (coded× (coded_list c) coded_bool) (λ t. (t.items, t.room)) (λ p. table p.0 p.1) (λ _. refl)

  abbrev pub held : Option (List X) → List X
  held None = []
  held (Some xs) = xs

abbrev pub most : ℕ
most = 16777216
