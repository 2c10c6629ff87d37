-- What a contract sees of a seat that was put by.
-- It is the seat as it was, and as it will be taken up again.
use Rattle.std.specs.Prelude.{◌≡◌, ℕ}
use Rattle.atomic_table.specs.Seated.{TableId}
use Rattle.bcl_segment.specs.declared.seat.Seat.{Seat}
use Rattle.bcl_segment.specs.declared.resting.Resting.{Resting}
use Rattle.bcl_segment.specs.Parts.{table_of, number_of, view_of}

module _ {R V K : Type 0} where
  -- which segments it is of, which seat of these it is, and what it knows
  abbrev pub resting_table : Resting R V K → TableId
  resting_table resting = resting.still.still.seat.table_id

  abbrev pub resting_number : Resting R V K → ℕ
  resting_number resting = resting.still.still.seat.id

  abbrev pub resting_view : Resting R V K → V
  resting_view resting = resting.still.still.seat.me.0

  -- the seat is the one that was put by
  abbrev pub IsRested : Seat R V K → Resting R V K → Type 0
  IsRested seat resting = (table_of seat ≡ resting_table resting) × (number_of seat ≡ resting_number resting) × (view_of seat ≡ resting_view resting)
