-- The reduction of rows, in the code's terms. Of each row that was given is kept what was left of it when the rows kept before it had
-- been added where needed, a leading place, and which given rows were added.
--     givens ks           the rows that were given
--     after v k           the entries v, where the row kept as k is added if v has a one at its leading place
--     rest_of v ks        what is left of the entries v after all that is kept
--     IsKept n rows m k   k has rows of n entries, a one at its leading place, and its reduced row is the sum of the first m of the
--                         given rows at the entries of its terms
--     IsReduction ks v r t     r is left of the row v after all that is kept, and is the sum of v and the given rows at the entries of t
--     AreKept n ks        so for each; a reduced row has a zero at the leading places of those before it; nothing is left of each given
--                         row; and these are independent
use Rattle.std.specs.Prelude.{◌≡◌, ℕ, ◌≤◌, Bool, true, false, ◌&&◌, List, map, length}
use Rattle.std.specs.List.{All, AllPairs, fold}
use Rattle.homology.specs.Sets.{Ids, empty, plus, image}
use Rattle.elimination.specs.Rows.{entry, entries_at, AreIndependent}
use Rattle.elimination.specs.declared.reduction.Kept.{Kept}

abbrev pub givens : List Kept → List (List Bool)
givens ks = map (λ k. k.given) ks

abbrev pub after : Ids → Kept → Ids
after v k = plus v (λ q. v k.lead && entry k.reduced q)

abbrev pub rest_of : Ids → List Kept → Ids
rest_of v ks = fold after v ks

pub record IsKept (n : ℕ) (rows : List (List Bool)) (m : ℕ) (k : Kept) : Type 0 where
  pub given : length k.given ≡ n
  pub reduced : length k.reduced ≡ n
  pub terms : length k.terms ≡ n
  pub leads : entry k.reduced k.lead ≡ true
  pub sound : entry k.reduced ≡ image n (entries_at rows) (entry k.terms)
  pub few : (j : ℕ) → m ≤ j → entry k.terms j ≡ false

pub record AreKept (n : ℕ) (ks : List Kept) : Type 0 where
  pub each : All (IsKept n (givens ks) (length ks)) ks
  pub cleared : AllPairs (λ k l. entry l.reduced k.lead ≡ false) ks
  pub vanish : All (λ k. rest_of (entry k.given) ks ≡ empty) ks
  pub independent : AreIndependent (givens ks)

pub record IsReduction (ks : List Kept) (v r t : List Bool) : Type 0 where
  pub rest : entry r ≡ rest_of (entry v) ks
  pub sum : plus (entry v) (image (length v) (entries_at (givens ks)) (entry t)) ≡ entry r
  pub few : (j : ℕ) → length ks ≤ j → entry t j ≡ false
  pub rest_width : length r ≡ length v
  pub terms_width : length t ≡ length v
