-- What a line and a book keep.
--     IsAttach e            the entry e is a simplex that came in
--     GrowsFrom L base n    the simplices of the first n entries of L are those of the version base, and behind these entries
--                           simplices came in, and nothing else
--     IsKept L cuts returns base n     the line L is legal, has these counts, and grows from there
--     Stands growing K      a growing model that stands is that of K
use Rattle.std.specs.Prelude.{⊤, ◌≡◌, ℕ, ◌<◌, ◌≤◌, List, length, take}
use Rattle.homology.specs.Complexes.{Complex}
use Rattle.lines.specs.Lines.{Entry, Attach, Cut, Back, Line, IsLegal, entry_at, simplices, version}
use Rattle.lines.specs.Lines as line
use Rattle.version_roots.specs.declared.growing.Growing.{Growing}
use Rattle.version_roots.specs.declared.growing.Growing.TheVariants as growing

abbrev pub IsAttach : Entry → Type 0
IsAttach (Attach c s) = ⊤
IsAttach (Cut c) = ⊥
IsAttach (Back c v) = ⊥

pub record GrowsFrom (L : Line) (base n : ℕ) : Type 0 where
  pub there : base ≤ line.cuts L
  pub within : n ≤ length L
  pub was : simplices (take n L) ≡ version L base
  pub came : (k : ℕ) → n ≤ k → k < length L → IsAttach (entry_at L k)

pub record IsKept (L : Line) (cuts returns base n : ℕ) : Type 0 where
  pub legal : IsLegal L
  pub cuts_are : cuts ≡ line.cuts L
  pub returns_are : returns ≡ line.returns L
  pub grows : GrowsFrom L base n

abbrev pub Stands : Growing → Complex → Type 0
Stands (growing.Standing m) K = m ≡ K
Stands growing.Lost K = ⊤
