-- What the calls of a map say.
use Rattle.std.specs.Prelude.{◌≡◌, ℕ, ◌+◌, ◌*◌, ◌≤◌, List, Option, Some, None, nat_lt, if◌then◌else◌}
use Rattle.bcl_segment.specs.declared.layout.Layout.{Layout}
use Rattle.bcl_segment.specs.Places as segment
use Rattle.bcl_event.specs.declared.event.Event.{Event}
use Rattle.bcl_event.specs.declared.map.MapCall.{MapCall}
use Rattle.bcl_event.specs.declared.map.MapReply.{MapReply}
use Rattle.bcl_event.specs.declared.map.MapReply.TheVariants.{Value, Absent}
use Rattle.bcl_phase.specs.declared.view.View.{View}
use Rattle.bcl_phase.specs.Stands as phase
use Rattle.bcl_map.specs.declared.shape.Shape.{Shape}
use Rattle.bcl_map.specs.declared.walk.Start.{Start}
use Rattle.bcl_map.specs.Map.{Words, begins_at, home, ranks, first_pairs, next, permits, IsShaped}
use Rattle.bcl_map.specs.Notes.{Note}

-- what a pass knows of a map
abbrev pub MapView : Type 0
MapView = View (MapCall Words Words) (MapReply Words) Note Shape

-- the calls with these events stand in the history of a map
abbrev pub Stands : (Words → Words → Words) → Shape → MapView → MapView → List (Event (MapCall Words Words) (MapReply Words)) → Type 0
Stands op shape old new es = phase.Stands ranks first_pairs (next op) permits shape old new es

-- the home of a key is the pass's own rank
pub record IsMine (view : MapView) (key : Words) : Type 0 where
  pub shape : Shape
  pub of : view.key ≡ Some shape
  pub own : home shape key ≡ view.rank

-- the layout and the key of a pass are those of a map
abbrev pub IsSeated : ℕ → ℕ → Option Shape → Layout → Type 0
IsSeated kw vw key layout = (key ≡ None → ⊥) × ((shape : Shape) → key ≡ Some shape → IsShaped kw vw 0 layout shape)

-- the place has so many words side by side, the first of which has this number
pub record IsBucketAt (words : ℕ) (layout : Layout) (at place : ℕ) : Type 0 where
  pub first : at ≡ words * place
  pub room : at + words ≤ segment.places layout

-- where the path of a key begins
abbrev pub start_at : Shape → Words → Start
start_at shape key = record { place = begins_at shape key; home = home shape key }

-- the bucket of so many words after one: after the last comes the first
abbrev pub after : ℕ → ℕ → ℕ → ℕ
after at end words = if nat_lt (at + words) end then at + words else 0

-- what a find answers
abbrev pub reply : {V : Type 0} → (V → Words) → Option V → MapReply Words
reply words None = Absent
reply words (Some value) = Value (words value)
