use Rattle.std.specs.Prelude.{◌≡◌, ℕ, ◌+◌, ◌<◌, List, ◌++◌, length, take, nat_eq, count_by, replicate, slice_index}
use Rattle.std.specs.List.{All}
use Rattle.manifold_links.specs.Entries.{AreLaid, HaveRoom}
use Rattle.manifold_links.proofs.entries.enter_all.Given as goal

abbrev pub invariant-loop-list : goal.invariant-loop-list
invariant-loop-list l = record {
  fits_ends : length l.ends ≡ length l.fn.ends;
  fits_ids : length l.ids ≡ length l.fn.ids;
  ends : (x : ℕ) → slice_index l.ends x ≡ slice_index l.fn.ends x + count_by (λ y. nat_eq x y) (take l.list-index l.lists);
  laid : (n : ℕ) (starts : List ℕ) (list : ℕ → List ℕ) → AreLaid n starts list l.fn.ends l.fn.ids → All (λ x. x < n) l.lists
      → HaveRoom starts (λ x. length (list x) + count_by (λ y. nat_eq x y) l.lists) n
      → AreLaid n starts (λ x. list x ++ replicate (count_by (λ y. nat_eq x y) (take l.list-index l.lists)) l.id) l.ends l.ids;
}
