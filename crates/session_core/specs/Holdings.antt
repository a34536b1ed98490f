-- What a session holds of the line.
--     Holding          the length of the line that was seen, the names, each with the line whose last version it stands for, and
--                      the line whose last version is in use
--     first n          at first, where so much of the line was seen
--     state_of h       the caller's state: versions by their numbers
--     Stands h L       all that is held is a beginning of the line L, and no more of it was seen
use Rattle.std.specs.Prelude.{ℕ, ◌≤◌, List, [], length, map}
use Rattle.std.specs.List.{All}
use mathlib.Core.List.{IsPrefix}
use Rattle.lines.specs.Lines.{Line, cuts}
use Rattle.lines.specs.Callers as caller

pub record Holding : Type 0 where
  pub seen : ℕ
  pub names : List (List ℕ × Line)
  pub in_use : Line

abbrev pub first : ℕ → Holding
first n = record { seen = n; names = []; in_use = [] }

abbrev pub versions_of : List (List ℕ × Line) → List (List ℕ × ℕ)
versions_of names = map (λ n. (n.0, cuts n.1)) names

abbrev pub state_of : Holding → caller.State
state_of h = record { seen = h.seen; names = versions_of h.names; in_use = cuts h.in_use }

pub record Stands (h : Holding) (L : Line) : Type 0 where
  pub seen : h.seen ≤ length L
  pub names : All (λ n. IsPrefix n.1 L) h.names
  pub in_use : IsPrefix h.in_use L
