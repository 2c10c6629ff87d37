-- How a device counts its faults.
-- The count never falls, and its last value is 2 ^ 64 - 1.
use Rattle.std.specs.Prelude.{◌≡◌, ℕ, ◌-◌, ◌^◌, ◌<◌, ◌≤◌, Result, OnOk, OnErr}

-- the faults rose: the count went up, unless it stands at its last value
abbrev pub Rose : ℕ → ℕ → Type 0
Rose old new = new < 2 ^ 64 - 1 → old < new

-- a call that succeeds leaves the count, and the count rises in one that fails
pub record CountsFaults {T E : Type 0} (old new : ℕ) (result : Result T E) : Type 0 where
  pub later : old ≤ new
  pub ok : OnOk result (new ≡ old)
  pub failed : OnErr result (Rose old new)
