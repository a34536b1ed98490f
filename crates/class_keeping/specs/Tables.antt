-- Tables of chains by the ids of simplices.
--     where_odd xs h t       t alone where h stands an odd number of times in xs, else empty
--     IsTable K p i table    at each h the table has those of the first i simplices t of dimension p with h in f t
use Rattle.std.specs.Prelude.{◌≡◌, ℕ, ◌&&◌, List, [], nat_eq, slice_index_or, take}
use Rattle.homology.specs.Sets.{Ids, set_of, single}
use Rattle.homology.specs.ListSums.{odd_over, sum_over}
use Rattle.homology.specs.Complexes.{Complex}
use Rattle.homology.specs.Kinds.{ids}
use Rattle.homology.specs.Contractions.{IsContraction}

abbrev pub where_odd : List ℕ → ℕ → ℕ → Ids
where_odd xs h t = λ q. odd_over xs (λ x. nat_eq h x) && single t q

abbrev pub IsTable : Complex → ℕ → ℕ → List (List ℕ) → Type 0
IsTable K p i table = (f g phi : ℕ → Ids) → IsContraction K f g phi → (h : ℕ)
    → set_of (slice_index_or table h []) ≡ sum_over (take i (ids K p)) (λ t q. f t h && single t q)
