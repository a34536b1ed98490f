-- What contracts see of the memory forms.
--     Plan        the numbers of the calls that fail, from 1, and how many calls were made
--     FailsNext   the next call is one that fails
--     Feed        bytes that are left, given out by at most `piece` at a time
--     Hold        bytes that are held, taken in by at most `piece` at a time
--     FailingFeed, FailingHold   the same, with a plan and a count of faults
use Rattle.std.specs.Prelude.{ℕ, ◌+◌, ◌-◌, ◌^◌, ◌<◌, List, min}
use Rattle.std.specs.List.{Contains}

pub record Plan : Type 0 where
  pub fails : List ℕ
  pub calls : ℕ

-- the number of the last call that a plan can name
abbrev pub last_call : ℕ
last_call = 2 ^ 32 - 1

-- the next call's number stands among those that fail; past the last number none does
abbrev pub FailsNext : Plan → Type 0
FailsNext p = (p.calls < last_call) × Contains p.fails (p.calls + 1)

-- the plan after one more call, counted up to the last number
abbrev pub called : Plan → Plan
called p = record p { calls = min (p.calls + 1) last_call }

pub record Feed : Type 0 where
  pub left : List ℕ
  pub piece : ℕ

pub record FailingFeed : Type 0 where
  pub left : List ℕ
  pub piece : ℕ
  pub plan : Plan
  pub faults : ℕ

pub record Hold : Type 0 where
  pub held : List ℕ
  pub piece : ℕ

pub record FailingHold : Type 0 where
  pub held : List ℕ
  pub piece : ℕ
  pub plan : Plan
  pub faults : ℕ
