-- Ascending lists, of any length.
--     same-lies               one that lies in another of the same length is that
--     filter-split            what passes and what does not make the whole
--     rest-length             a list that lies in another makes it with what it lacks
use Rattle.std.proofs.Common.{◌≡◌, ◌≢◌, ℕ, ◌+◌, ◌<◌, Bool, true, false, cond, not, ◌&&◌, List, [], ◌∷◌, length, get_or, nat_eq, refl, sym, ap, ◌∙◌, arith, eqb-true, eq-eqb}
use Rattle.std.specs.List.{filter, remove}
use Rattle.std.specs.List.Sorted.{IsStrictlyIncreasing}
use Rattle.std.proofs.lemmas.Bool.{true≢false, and_parts, and_from}
use Rattle.std.proofs.lemmas.List.Kept.{IsStrictlyIncreasing-filter}
use Rattle.homology.specs.Parity.{xor}
use Rattle.homology.specs.Sets.{set_of}
use Rattle.homology.proofs.ParityLaws.{nat_eq-apart}
use Rattle.homology.proofs.KindSteps.{tests-same}
use Rattle.homology.proofs.KindLaws.{set_of-filter}
use Rattle.homology.proofs.ListSetLaws.{Rises-ascending, same_ascending, set_of-remove}
use Rattle.manifolds.specs.Closed.{lies_in}
use Rattle.manifolds.proofs.LyingLaws.{lies-picks, picks-same}
use Rattle.manifolds.proofs.LinkLaws.{all-at, set_of-at}
use Rattle.manifold_links.specs.Stars.{rest}

pub same-lies : (s t : List ℕ) → IsStrictlyIncreasing s → IsStrictlyIncreasing t → lies_in s t ≡ true → length s ≡ length t → s ≡ t
same-lies s t sp tp e long = picks-same s t (lies-picks 0 0 s t (Rises-ascending s sp) (Rises-ascending t tp) e) long

filter-split : (p : ℕ → Bool) (u : List ℕ) → length (filter (λ v. not (p v)) u) + length (filter p u) ≡ length u
filter-split p [] = refl
filter-split p (x ∷ u) = by (p x) (filter-split p u)
  where
    by : (b : Bool) → length (filter (λ v. not (p v)) u) + length (filter p u) ≡ length u
        → length (cond (not b) (x ∷ filter (λ v. not (p v)) u) (filter (λ v. not (p v)) u)) + length (cond b (x ∷ filter p u) (filter p u)) ≡ length (x ∷ u)
    by true e = omega (arith, e)
    by false e = omega (arith, e)

pub rest-length : (s u : List ℕ) → IsStrictlyIncreasing s → IsStrictlyIncreasing u → lies_in s u ≡ true → length (rest s u) + length s ≡ length u
rest-length s u sp up e = omega (
  arith,
  filter-split (set_of s) u,
  ap length (same_ascending (filter (set_of s) u) s (IsStrictlyIncreasing-filter (set_of s) u up) sp (λ i v. same v i)),
)
  where
    same : (v : ℕ) → set_of (filter (set_of s) u) v ≡ set_of s v
    same v = set_of-filter (set_of s) u v ∙ tests-same (set_of s v && set_of u v) (set_of s v)
        (λ m. (and_parts (set_of s v) (set_of u v) m).0)
        (λ m. and_from (set_of s v) (set_of u v) m (all-at (set_of u) s e v m))
