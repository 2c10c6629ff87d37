-- What the rule of segments allows a seat of theirs.
-- `holds` is the rule, which reads the key of the segments.
use Rattle.std.specs.Prelude.{ℕ}
use Rattle.atomic_table.specs.Table.{State}
use Rattle.bcl_segment.specs.declared.layout.Spot.{Spot}
use Rattle.bcl_segment.specs.declared.segments.Segments.{Segments}
use Rattle.bcl_segment.specs.declared.seat.Seat.{Seat}
use Rattle.bcl_segment.specs.Parts.{key_of, word_of, number_of, view_of}
use Rattle.bcl_segment.specs.Steps.{Steps, Splits, Joins}

module _ {R V K : Type 0} (holds : K → State (Unit {0}) V → Type 0) (segments : Segments R V K) (seat : Seat R V K) where
  -- a step that makes the word at the spot f of what it was, and of which `then` holds
  abbrev pub MayStep : Spot → (ℕ → ℕ) → (ℕ → V → Type 0) → Type 0
  MayStep spot f then = Steps (holds (key_of segments)) (number_of seat) (view_of seat) (word_of segments spot) f then

  -- a split of its view into these two
  abbrev pub MaySplit : V → V → Type 0
  MaySplit left right = Splits (holds (key_of segments)) (number_of seat) (view_of seat) left right

  -- a join of another seat's view to its own, which makes them these two
  abbrev pub MayJoin : Seat R V K → V → V → Type 0
  MayJoin other both spent = Joins (holds (key_of segments)) (number_of seat) (view_of seat) (number_of other) (view_of other) both spent
