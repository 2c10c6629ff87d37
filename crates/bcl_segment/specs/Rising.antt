-- A counter that only rises, the rule of a test.
-- A seat's view is a number that the counter has reached.
use Rattle.std.specs.Prelude.{◌≡◌, ℕ, ◌≤◌, ◌<◌, List, length, slice_index}
use mathlib.Core.Option.{some}
use lib.ListN.{get_elem?}

-- the first word is the counter, and no view is above it
pub record Reached (words : List ℕ) (views : List ℕ) : Type 0 where
  pub counter : 0 < length words
  pub views_below : (seat v : ℕ) → get_elem? views seat ≡ some v → v ≤ slice_index words 0

-- the number found is no less than what was known, and is known from then on
abbrev pub Looked : ℕ → ℕ → ℕ → Type 0
Looked v found w = (v ≤ found) × (w ≡ found)
