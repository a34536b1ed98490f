-- Where the answers of a round are filed, by worker and then by turn.
--     place_of k workers turns    the place of the answer to the job k, which goes to the worker k modulo workers
--     job_at p workers turns      the job whose answer is filed at the place p
--     IsFiled gives jobs k slot   something is filed for the job k; where it is an answer, it is one to that job
--     AreFiled gives jobs w t slots     so it is for all jobs, each at its place
use Rattle.std.specs.Prelude.{ℕ, ◌+◌, ◌*◌, ◌/◌, ◌%◌, ◌<◌, List, length, slice_index_or, Option, None, Some, Result, IfOk}

abbrev pub place_of : ℕ → ℕ → ℕ → ℕ
place_of k workers turns = k % workers * turns + k / workers

abbrev pub job_at : ℕ → ℕ → ℕ → ℕ
job_at p workers turns = p % turns * workers + p / turns

abbrev pub IsFiled : {J A E : Type 0} → (J → A → Type 0) → List J → ℕ → Option (Result A E) → Type 0
IsFiled gives jobs k None = ⊥
IsFiled {J} gives jobs k (Some r) = IfOk r (λ a. (d : J) → gives (slice_index_or jobs k d) a)

abbrev pub AreFiled : {J A E : Type 0} → (J → A → Type 0) → List J → ℕ → ℕ → List (Option (Result A E)) → Type 0
AreFiled {J} {A} {E} gives jobs workers turns slots = (k : ℕ) (d : Option (Result A E)) → k < length jobs → IsFiled gives jobs k (slice_index_or slots (place_of k workers turns) d)
