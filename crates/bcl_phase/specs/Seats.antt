-- What the seat of a home and the seat of a pass are, of the segments that they sit at.
-- The home has the first seat.
use Rattle.std.specs.Prelude.{◌≡◌, ℕ, ◌+◌, ◌≤◌, ◌^◌, Option, Some, None, Bool, true}
use Rattle.bcl_segment.specs.declared.layout.Layout.{Layout}
use Rattle.bcl_segment.specs.Places.{places}
use Rattle.bcl_segment.specs.declared.segments.Segments.{Segments}
use Rattle.bcl_segment.specs.declared.seat.Seat.{Seat}
use Rattle.bcl_segment.specs.Parts.{id_of, key_of, layout_of, number_of, view_of, IsSeatOf}
use Rattle.bcl_segment.specs.declared.resting.Resting.{Resting}
use Rattle.bcl_segment.specs.Resting.{resting_table, resting_number, resting_view}
use Rattle.bcl_phase.specs.declared.view.View.{View}
use Rattle.bcl_phase.specs.declared.view.Role.TheVariants.{Pass}

module _ {R C A X K : Type 0} where
  abbrev pub IsHomeSeat : Segments R (View C A X K) K → Seat R (View C A X K) K → Type 0
  IsHomeSeat segments seat = IsSeatOf seat segments × (number_of seat ≡ 0) × ((view_of seat).key ≡ Some (key_of segments)) × ((view_of seat).rank ≡ (layout_of segments).ranks)

  -- the same of a seat that is put by
  abbrev pub IsRestingHome : Segments R (View C A X K) K → Resting R (View C A X K) K → Type 0
  IsRestingHome segments home = (resting_table home ≡ id_of segments) × (resting_number home ≡ 0) × ((resting_view home).key ≡ Some (key_of segments)) × ((resting_view home).rank ≡ (layout_of segments).ranks)

  abbrev pub IsPassSeat : ℕ → ℕ → Seat R (View C A X K) K → Type 0
  IsPassSeat promise rank seat = ((view_of seat).role ≡ Pass) × ((view_of seat).promise ≡ promise) × ((view_of seat).rank ≡ rank)

-- a key is sound, and segments have the head words and the layout that their key says, at least one rank, and 1 to 2^27 words
pub record IsLaid (key_sound : Bool) (key_heads : ℕ) (key_layout : Layout) (heads : ℕ) (layout : Layout) : Type 0 where
  pub sound : key_sound ≡ true
  pub as_heads : heads ≡ key_heads
  pub as_layout : layout ≡ key_layout
  pub manned : 1 ≤ layout.ranks
  pub some : 1 ≤ heads + places layout
  pub few : heads + places layout ≤ 2 ^ 27

-- a view has a key, and the layout is the one that it says
pub record IsLaidBy {K : Type 0} (sound_of : K → Bool) (heads_of : K → ℕ) (layout_of : K → Layout) (key : Option K) (layout : Layout) : Type 0 where
  pub some : key ≡ None → ⊥
  pub laid : (k : K) → key ≡ Some k → IsLaid (sound_of k) (heads_of k) (layout_of k) (heads_of k) layout
