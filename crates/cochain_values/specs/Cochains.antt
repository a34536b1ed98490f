-- Cochains as a contract sees them.
--     Graded             a degree, and the ascending list of the ids at which the value is 1
--     StandsOn K a       each of these is the id of a simplex of K whose dimension is the degree
--     IsFirst n a x      x is the least member of the set a below n
-- Source: Munkres, Elements of Algebraic Topology, section 42, with coefficients modulo 2.
use Rattle.std.specs.Prelude.{◌≡◌, ℕ, ◌<◌, true, false, List, refl}
use Rattle.std.specs.Coded.{Coded, code_by, coded×, coded_list, coded_ℕ}
use Rattle.homology.specs.Sets.{Ids, set_of}
use Rattle.homology.specs.Complexes.{Complex}
use Rattle.homology.specs.Chains.{IsChain}

pub record Graded : Type 0 where
  pub degree : ℕ
  pub ids : List ℕ

-- such values are made of numbers and lists
abbrev pub graded_code : Coded Graded
graded_code = code_by (ℕ × List ℕ) (coded× coded_ℕ (coded_list coded_ℕ)) (λ a. (a.degree, a.ids)) (λ p. record { degree = p.0; ids = p.1 }) (λ _. refl)

abbrev pub StandsOn : Complex → Graded → Type 0
StandsOn K a = IsChain K a.degree (set_of a.ids)

pub record IsFirst (n : ℕ) (a : Ids) (x : ℕ) : Type 0 where
  pub below : x < n
  pub member : a x ≡ true
  pub least : (y : ℕ) → y < x → a y ≡ false
