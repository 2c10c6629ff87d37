-- What a rule has to allow, for a step, for a split and for a join.
-- A rule speaks of the words and of the views, of which seat n has the n-th. A step changes one word, and the view of the seat that makes it.
use Rattle.std.specs.Prelude.{◌≡◌, ◌≢◌, ℕ, ◌^◌, ◌<◌, List, [], ◌∷◌, ◌++◌, slice_index, slice_set, Result, Ok, Err}
use mathlib.Core.Option.{some}
use lib.ListN.{get_elem?}
use Rattle.atomic_table.specs.Table.{State}

-- the number that a compare and exchange found, whether it won or lost
abbrev pub found_by : Result ℕ ℕ → ℕ
found_by (Ok n) = n
found_by (Err n) = n

module _ {V : Type 0} where
  -- the start, with the view of the first seat
  abbrev pub opened : List ℕ → V → State (Unit {0}) V
  opened words v = record { words = words; homes = []; views = v ∷ [] }

  -- the word i becomes n, and the view of the seat w
  abbrev pub stepped : State (Unit {0}) V → ℕ → ℕ → ℕ → V → State (Unit {0}) V
  stepped s i n seat w = record s { words = slice_set s.words i n; views = slice_set s.views seat w }

  -- Whatever the words and the views are when the word i becomes f of what it was, the seat has a new view that keeps the rule, and `then` holds of the number found and of that view
  abbrev pub Steps : (State (Unit {0}) V → Type 0) → ℕ → V → ℕ → (ℕ → ℕ) → (ℕ → V → Type 0) → Type 0
  Steps holds seat v i f then = (s : State (Unit {0}) V) → holds s → get_elem? s.views seat ≡ some v → slice_index s.words i < 2 ^ 64
      → (w : V) × holds (stepped s i (f (slice_index s.words i)) seat w) × then (slice_index s.words i) w

  -- Whatever the words and the other views are, the rule is kept where the seat's view becomes `left` and a new seat has `right`
  abbrev pub Splits : (State (Unit {0}) V → Type 0) → ℕ → V → V → V → Type 0
  Splits holds seat v left right = (s : State (Unit {0}) V) → holds s → get_elem? s.views seat ≡ some v → holds (record s { views = slice_set s.views seat left ++ right ∷ [] })

  -- Whatever the words and the other views are, the rule is kept where the seat's view becomes `both` and the other seat's `spent`
  abbrev pub Joins : (State (Unit {0}) V → Type 0) → ℕ → V → ℕ → V → V → V → Type 0
  Joins holds seat v other w both spent = (s : State (Unit {0}) V) → holds s → get_elem? s.views seat ≡ some v → other ≢ seat → get_elem? (slice_set s.views seat both) other ≡ some w
      → holds (record s { views = slice_set (slice_set s.views seat both) other spent })
