-- What a contract sees of segments and of a seat.
-- Segments are known by the id of their table, and a seat by that id and its number there.
use Rattle.std.specs.Prelude.{◌≡◌, ℕ}
use Rattle.atomic_table.specs.Seated.{TableId}
use Rattle.bcl_segment.specs.declared.layout.Layout.{Layout}
use Rattle.bcl_segment.specs.declared.layout.Spot.{Spot}
use Rattle.bcl_segment.specs.declared.segments.Segments.{Segments}
use Rattle.bcl_segment.specs.declared.seat.Seat.{Seat}
use Rattle.bcl_segment.specs.Places.{IsSpot, word_at}

module _ {R V K : Type 0} where
  -- which segments they are
  abbrev pub id_of : Segments R V K → TableId
  id_of s = s.table.shared.table_id

  -- what was fixed when they were made
  abbrev pub key_of : Segments R V K → K
  key_of s = s.table.shared.key

  abbrev pub layout_of : Segments R V K → Layout
  layout_of s = s.layout

  abbrev pub heads_of : Segments R V K → ℕ
  heads_of s = s.heads

  -- the segments have a word at this spot
  abbrev pub HasSpot : Segments R V K → Spot → Type 0
  HasSpot s spot = IsSpot (heads_of s) (layout_of s) spot

  -- the number of the word at this spot
  abbrev pub word_of : Segments R V K → Spot → ℕ
  word_of s spot = word_at (heads_of s) (layout_of s) spot

  -- which segments it is of
  abbrev pub table_of : Seat R V K → TableId
  table_of s = s.inner.seat.table_id

  -- which seat of these it is
  abbrev pub number_of : Seat R V K → ℕ
  number_of s = s.inner.seat.id

  -- what it knows
  abbrev pub view_of : Seat R V K → V
  view_of s = s.inner.seat.me.0

  -- the seat is of these segments
  abbrev pub IsSeatOf : Seat R V K → Segments R V K → Type 0
  IsSeatOf seat segments = table_of seat ≡ id_of segments

  -- the same seat, with whatever view
  abbrev pub IsSameSeat : Seat R V K → Seat R V K → Type 0
  IsSameSeat old new = (table_of new ≡ table_of old) × (number_of new ≡ number_of old)
