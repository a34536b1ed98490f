-- Tests of cochains, and the search for the first list that passes a test.
--     first test cs           the first of the lists cs that passes; the empty list, where none does
--     is_cocycle K a          whether the coboundary of a is empty
--     is_coboundary K p e     whether e is the coboundary of some cochain of degree p - 1, by search through all of them; in
--                             degree 0 whether e is empty
--     first_broken K a        the first id at which the coboundary of a is 1, where a is no cocycle
-- Source: Munkres, Elements of Algebraic Topology, section 42.
use Rattle.std.specs.Prelude.{ℕ, zero, suc, Bool, List, [], length, Option}
use Rattle.std.specs.List.{find, list_any, range_with_len}
use Rattle.std.specs.Option.{unwrap_or}
use Rattle.homology.specs.Sets.{Ids, plus, set_of}
use Rattle.homology.specs.Complexes.{Complex}
use Rattle.homology.specs.Chains.{coboundary}
use Rattle.homology.specs.Kinds.{chains, is_empty}

abbrev pub first : (List ℕ → Bool) → List (List ℕ) → List ℕ
first test cs = unwrap_or (find test cs) []

abbrev pub is_cocycle : Complex → Ids → Bool
is_cocycle K a = is_empty (length K) (coboundary K a)

abbrev pub first_broken : Complex → Ids → Option ℕ
first_broken K a = find (coboundary K a) (range_with_len 0 (length K))

abbrev pub is_coboundary : Complex → ℕ → Ids → Bool
is_coboundary K zero e = is_empty (length K) e
is_coboundary K (suc p) e = list_any (λ u. is_empty (length K) (plus e (coboundary K (set_of u)))) (chains K p)
