-- Devices over memory, as their callers see them.
-- Calls are numbered from 1, up to the last number that fits.
use Rattle.std.specs.Prelude.{◌≡◌, ℕ, ◌+◌, ◌-◌, ◌^◌, min, List, Contains}

-- which calls fail, how many calls there were, and how many of them failed
pub record Schedule : Type 0 where
  pub failing : List ℕ
  pub calls : ℕ
  pub faults : ℕ

pub record Supply : Type 0 where
  pub left : List ℕ
  pub piece : ℕ  -- the most bytes of a call
  pub schedule : Schedule

pub record Store : Type 0 where
  pub taken : List ℕ
  pub room : ℕ  -- the most bytes in all
  pub piece : ℕ  -- the most bytes of a call
  pub schedule : Schedule

-- the number of the next call
abbrev pub next_call : Schedule → ℕ
next_call s = min (s.calls + 1) (2 ^ 64 - 1)

-- the next call is one of those that fail
abbrev pub FailsNext : Schedule → Type 0
FailsNext s = Contains s.failing (next_call s)

-- one call was made, and the same calls are to fail
pub record CallsOnce (old new : Schedule) : Type 0 where
  pub calls : new.calls ≡ next_call old
  pub failing : new.failing ≡ old.failing
