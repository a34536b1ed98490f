-- The lengths of the line at the looks of a session.
--     Looked          the lengths, in order; and whether there is room for one more
--     lengths_of rs   those of runs of equal lengths
--     has_room rs     whether one more run fits
use Rattle.std.specs.Prelude.{ℕ, Bool, List, nat_lt, replicate, Vec}
use Rattle.std.specs.List.{flat_map}
use Rattle.std.specs.Vec.{vec_len, vec_capacity}
use Rattle.std.specs.declared.alloc.Global.{Global}
use Rattle.session_core.specs.declared.looks.Run.{Run}

pub record Looked : Type 0 where
  pub lengths : List ℕ
  pub has_room : Bool

abbrev pub lengths_of : List Run → List ℕ
lengths_of runs = flat_map (λ r. replicate r.times r.length) runs

abbrev pub has_room : Vec Run Global → Bool
has_room runs = nat_lt (vec_len runs) (vec_capacity runs)
