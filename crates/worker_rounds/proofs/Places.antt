-- Places and jobs answer each other.
--     place-within, place-back     a job has a place, and the job filed there is this one
--     filed-still                  where the answer to the job k is taken away, those to later jobs stay filed
--     filed-answer                 an answer that is filed for a job is one to it
--     given-more                   the answer to the job k, put behind those to all jobs before
use Rattle.std.proofs.Common.{◌≡◌, ◌≢◌, ◌≤◌, ◌<◌, ◌*◌, ◌+◌, ◌/◌, ◌%◌, ◌++◌, ◌∷◌, [], ℕ, List, length, slice_index_or, slice_set, Option, Some, Result, Ok, subst, sym, ap, ◌∙◌, ⊎_elim, arith}
use Rattle.std.proofs.Math.Nat.{div-add-mod, div-lt_iff_lt-mul, eq-or-lt_of_le, mod-lt, mul_comm}
use Rattle.std.proofs.lemmas.Nat.{div-mul-add, mod-mul-add, mul-add-lt}
use Rattle.std.proofs.lemmas.List.{get_or-set_other}
use Rattle.std.proofs.Math.ListN.{get_or-append}
use Rattle.std.proofs.Math.Seq.{get_or-append_seam}
use Rattle.worker_rounds.specs.Rounds.{IsFiled, job_at, place_of}

turn-within : (k w t : ℕ) → 0 < w → k < w * t → k / w < t
turn-within k w t some within = (div-lt_iff_lt-mul some).1 (subst (λ m. k < m) (mul_comm w t) within)

pub place-within : (k w t : ℕ) → 0 < w → k < w * t → place_of k w t < w * t
place-within k w t some within =
    subst (λ m. k % w * t + k / w < m) (mul_comm t w) (mul-add-lt (k % w) t (k / w) w (mod-lt k some) (turn-within k w t some within))

pub place-back : (k w t : ℕ) → 0 < w → k < w * t → job_at (place_of k w t) w t ≡ k
place-back k w t some within =
    ap (λ q. q * w + place_of k w t / t) (mod-mul-add (k % w) t (k / w) (turn-within k w t some within))
    ∙ ap (λ r. k / w * w + r) (div-mul-add (k % w) t (k / w) (turn-within k w t some within))
    ∙ ap (λ m. m + k % w) (mul_comm (k / w) w)
    ∙ div-add-mod k w

place-other : (j k w t : ℕ) → 0 < w → k < j → j < w * t → place_of j w t ≢ place_of k w t
place-other j k w t some before within same =
    let one : j ≡ k = sym (place-back j w t some within) ∙ ap (λ p. job_at p w t) same ∙ place-back k w t some (omega (arith, before, within)) in
    omega (arith, one, before)

pub filed-still : {J A E : Type 0} → (gives : J → A → Type 0) → (jobs : List J) → (slots : List (Option (Result A E))) → (k w t p : ℕ) → (new : Option (Result A E)) → 0 < w → length jobs ≤ w * t → p ≡ place_of k w t
    → ((j : ℕ) (d : Option (Result A E)) → k ≤ j → j < length jobs → IsFiled gives jobs j (slice_index_or slots (place_of j w t) d))
    → (j : ℕ) (d : Option (Result A E)) → k + 1 ≤ j → j < length jobs → IsFiled gives jobs j (slice_index_or (slice_set slots p new) (place_of j w t) d)
filed-still gives jobs slots k w t p new some all at filed j d later within =
    subst (IsFiled gives jobs j) (sym (get_or-set_other slots p (place_of j w t) new d (λ same. place-other j k w t some (omega (arith, later)) (omega (arith, within, all)) (same ∙ at))))
    (filed j d (omega (arith, later)) within)

pub filed-answer : {J A E : Type 0} → (gives : J → A → Type 0) → (jobs : List J) → (k : ℕ) → (slot : Option (Result A E)) → (r : Result A E) → (a : A) → slot ≡ Some r → r ≡ Ok a → IsFiled gives jobs k slot → (j : J) → gives (slice_index_or jobs k j) a
filed-answer gives jobs k slot r a some ok filed = subst (λ o. IsFiled gives jobs k (Some o)) ok (subst (IsFiled gives jobs k) some filed)

pub given-more : {J A : Type 0} → (gives : J → A → Type 0) → (jobs : List J) → (answers : List A) → (k : ℕ) → (a : A) → length answers ≡ k → ((j : J) → gives (slice_index_or jobs k j) a)
    → ((i : ℕ) (j : J) (b : A) → i < k → gives (slice_index_or jobs i j) (slice_index_or answers i b))
    → (i : ℕ) (j : J) (b : A) → i < k + 1 → gives (slice_index_or jobs i j) (slice_index_or (answers ++ a ∷ []) i b)
given-more {J} {A} gives jobs answers k a long last before i j b within = ⊎_elim at_end earlier (eq-or-lt_of_le (omega (arith, within)))
  where
    at_end : i ≡ k → gives (slice_index_or jobs i j) (slice_index_or (answers ++ a ∷ []) i b)
    at_end same =
        subst (λ m. gives (slice_index_or jobs m j) (slice_index_or (answers ++ a ∷ []) m b)) (long ∙ sym same)
        (subst (gives (slice_index_or jobs (length answers) j)) (sym (get_or-append_seam answers a [] b)) (subst (λ m. gives (slice_index_or jobs m j) a) (sym long) (last j)))

    earlier : i < k → gives (slice_index_or jobs i j) (slice_index_or (answers ++ a ∷ []) i b)
    earlier less = subst (gives (slice_index_or jobs i j)) (sym (get_or-append answers (a ∷ []) b i (omega (arith, less, long)))) (before i j b less)
