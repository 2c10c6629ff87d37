-- Where words stand: the places of a layout, and the spots of segments.
-- The head words come first, and then a segment of words for each rank, in the order of the ranks.
use Rattle.std.specs.Prelude.{ℕ, ◌+◌, ◌*◌, ◌/◌, ◌%◌, ◌<◌}
use Rattle.bcl_segment.specs.declared.layout.GlobalPtr.{GlobalPtr}
use Rattle.bcl_segment.specs.declared.layout.Layout.{Layout}
use Rattle.bcl_segment.specs.declared.layout.Spot.{Spot}
use Rattle.bcl_segment.specs.declared.layout.Spot.TheVariants.{Head, At}

-- how many places the segments have together
abbrev pub places : Layout → ℕ
places layout = layout.ranks * layout.per_rank

-- the pointer names a rank, and an offset in its segment
abbrev pub Points : Layout → GlobalPtr → Type 0
Points layout ptr = (ptr.rank < layout.ranks) × (ptr.offset < layout.per_rank)

-- the place of a pointer, counted over all segments
abbrev pub place_of : Layout → GlobalPtr → ℕ
place_of layout ptr = ptr.rank * layout.per_rank + ptr.offset

-- the pointer to a place
abbrev pub ptr_of : Layout → ℕ → GlobalPtr
ptr_of layout place = record { rank = place / layout.per_rank; offset = place % layout.per_rank }

-- the spot is there, where there are so many head words: a number counts the words, the head words first
abbrev pub IsSpot : ℕ → Layout → Spot → Type 0
IsSpot heads layout (Head i) = i < heads + places layout
IsSpot heads layout (At ptr) = Points layout ptr

-- the number of the word at a spot
abbrev pub word_at : ℕ → Layout → Spot → ℕ
word_at heads layout (Head i) = i
word_at heads layout (At ptr) = heads + place_of layout ptr
