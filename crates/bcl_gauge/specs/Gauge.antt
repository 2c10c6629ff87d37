-- The gauge: its sequential object, and what its word means.
-- Within a phase the word may be below the floor, and the number is the floor then. At home the word is the number.
use Rattle.std.specs.Prelude.{◌≡◌, ℕ, ◌≤◌, ◌<◌, ◌^◌, List, [], length, max, min, slice_index}
use Rattle.bcl_event.specs.declared.event.Event.{Event}
use Rattle.bcl_event.specs.History.{state_after}
use Rattle.bcl_gauge.specs.declared.gauge.Shape.{Shape}
use Rattle.bcl_gauge.specs.declared.gauge.Call.{Call}
use Rattle.bcl_gauge.specs.declared.gauge.Call.TheVariants.{Lower}

abbrev pub ranks : Shape → ℕ
ranks shape = shape.ranks

abbrev pub start : Shape → ℕ
start shape = 18446744073709551615

abbrev pub next : Shape → ℕ → Call → Unit {0} × ℕ
next shape t (Lower n) = (tt, max shape.floor (min t n))

abbrev pub permits : Shape → ℕ → ℕ → Call → Type 0
permits shape promise rank call = Unit {0}

-- the number that a history leaves
abbrev pub number : Shape → List (Event Call (Unit {0})) → ℕ
number shape history = state_after (next shape) (start shape) history

pub record Fits (shape : Shape) (promise : ℕ) (ws : List ℕ) (t : ℕ) : Type 0 where
  pub one : length ws ≡ 1
  pub small : shape.floor < 2 ^ 64
  pub number : t ≡ max shape.floor (slice_index ws 0)
  pub home : promise ≡ 0 → shape.floor ≤ slice_index ws 0

abbrev pub fits : Shape → ℕ → List ℕ → ℕ → List (Unit {0}) → Type 0
fits shape promise ws t notes = Fits shape promise ws t

pub begun : (shape : Shape) (q : ℕ) (ws : List ℕ) (t : ℕ) → fits shape 0 ws t [] → fits shape q ws t []
begun shape q ws t fit = record { one = fit.one; small = fit.small; number = fit.number; home = λ _. fit.home (λ i. 0) }
