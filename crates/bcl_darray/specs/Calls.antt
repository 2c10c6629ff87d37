-- What the calls of an array say, and what their steps tell.
use Rattle.std.specs.Prelude.{◌≡◌, ℕ, ◌+◌, ◌*◌, ◌/◌, ◌≤◌, ◌==◌, List, [], ◌∷◌, Bool, true, false, Option, Some, None, slice_index, if◌then◌else◌}
use Rattle.bcl_segment.specs.declared.layout.Layout.{Layout}
use Rattle.bcl_segment.specs.Places.{places}
use Rattle.bcl_event.specs.declared.event.Event.{Event}
use Rattle.bcl_event.specs.declared.array.ArrayCall.{ArrayCall}
use Rattle.bcl_event.specs.declared.array.ArrayCall.TheVariants.{Read, Write}
use Rattle.bcl_event.specs.declared.array.ArrayReply.{ArrayReply}
use Rattle.bcl_event.specs.declared.array.ArrayReply.TheVariants.{Done}
use Rattle.bcl_event.specs.Array.{item_at, array_step}
use Rattle.bcl_phase.specs.declared.flight.Flight.{Flight}
use Rattle.bcl_phase.specs.declared.view.View.{View}
use Rattle.bcl_phase.specs.Flights.{Lies}
use Rattle.bcl_phase.specs.declared.pass.Pass.{Pass}
use Rattle.bcl_phase.specs.Parts.{pass_view}
use Rattle.bcl_phase.specs.Stands as phase
use Rattle.bcl_darray.specs.declared.array.Shape.{Shape}
use Rattle.bcl_darray.specs.declared.array.Note.{Note}
use Rattle.bcl_darray.specs.declared.array.Note.TheVariants.{Rest, Getting, Putting}
use Rattle.bcl_darray.specs.Array.{ranks, start, next, permits, IsShaped}

-- what a pass knows of an array
abbrev pub ItemView : Type 0
ItemView = View (ArrayCall (List ℕ)) (ArrayReply (List ℕ)) Note Shape

-- the calls with these events stand in the history of an array
abbrev pub Stands : Shape → ItemView → ItemView → List (Event (ArrayCall (List ℕ)) (ArrayReply (List ℕ))) → Type 0
Stands shape old new es = phase.Stands ranks start next permits shape old new es

-- the index lies in the block of the pass's own rank
pub record IsMine (view : ItemView) (index : ℕ) : Type 0 where
  pub shape : Shape
  pub of : view.key ≡ Some shape
  pub own : index / shape.per_rank ≡ view.rank

abbrev pub flight : ℕ → List ℕ → ℕ → Flight
flight place object count = record { place = place; object = object; count = count }

-- ---- a read

-- the first j words of an item were got, and they are the first of these words
abbrev pub HasGot : ℕ → ℕ → List ℕ → Note → Type 0
HasGot place j words Rest = j ≡ 0
HasGot place j words (Getting f) = (f.place ≡ place) × (f.count ≡ j) × Lies words 0 f.object j
HasGot place j words (Putting f) = ⊥

-- the item is still the one whose words were got
abbrev pub IsSame : Note → List ℕ → Type 0
IsSame Rest item = Unit {0}
IsSame (Getting f) item = item ≡ f.object
IsSame (Putting f) item = item ≡ f.object

-- a step that gets the word j of an item, and not the last
pub record Gets (place j : ℕ) (before : Note) (n : ℕ) (items : List (List ℕ)) (did : List (ArrayCall (List ℕ))) (after : Note) : Type 0 where
  pub none : did ≡ []
  pub note : after ≡ Getting (flight place (item_at place items) (j + 1))
  pub word : n ≡ slice_index (item_at place items) j
  pub same : IsSame before (item_at place items)

-- a step that gets the last word of an item: the read takes place there
pub record Reads (passes : List ℕ → Bool) (place j : ℕ) (before : Note) (n : ℕ) (items : List (List ℕ)) (did : List (ArrayCall (List ℕ))) (after : Note) : Type 0 where
  pub one : did ≡ Read place ∷ []
  pub note : after ≡ Rest
  pub word : n ≡ slice_index (item_at place items) j
  pub same : IsSame before (item_at place items)
  pub whole : passes (item_at place items) ≡ true

-- a step that gets the word j of an item of so many
abbrev pub GetsBy : Bool → (List ℕ → Bool) → ℕ → ℕ → Note → ℕ → List (List ℕ) → List (ArrayCall (List ℕ)) → Note → Type 0
GetsBy true passes place j before n items did after = Reads passes place j before n items did after
GetsBy false passes place j before n items did after = Gets place j before n items did after

abbrev pub GetsWord : ℕ → (List ℕ → Bool) → ℕ → ℕ → Note → ℕ → List (List ℕ) → List (ArrayCall (List ℕ)) → Note → Type 0
GetsWord width passes place j = GetsBy (j + 1 == width) passes place j

-- ---- a write

-- the first j words of an item of so many were put
abbrev pub putting : ℕ → ℕ → List ℕ → ℕ → Note
putting width place object j = if j == width then Rest else Putting (flight place object j)

-- a step that makes this call, is answered so, and leaves this note
pub record Makes (call : ArrayCall (List ℕ)) (reply : ArrayReply (List ℕ)) (note : Note) (items : List (List ℕ)) (did : List (ArrayCall (List ℕ))) (after : Note) : Type 0 where
  pub one : did ≡ call ∷ []
  pub answer : (array_step items call).0 ≡ reply
  pub left : after ≡ note

-- a step that makes no call, and leaves this note
pub record Puts (note : Note) (did : List (ArrayCall (List ℕ))) (after : Note) : Type 0 where
  pub none : did ≡ []
  pub left : after ≡ note

-- a step that puts a word of an item of so many, behind those that were put: the write takes place at the first
abbrev pub PutsWord : ℕ → ℕ → List ℕ → Note → List (List ℕ) → List (ArrayCall (List ℕ)) → Note → Type 0
PutsWord width place item Rest items did after = Makes (Write place item) Done (putting width place item 1) items did after
PutsWord width place item (Getting f) items did after = ⊥
PutsWord width place item (Putting f) items did after = Puts (putting width f.place f.object (f.count + 1)) did after

-- ---- where an item stands

-- the words of the item stand side by side, and the first of them has this number
pub record IsItemAt (width : ℕ) (layout : Layout) (at index : ℕ) : Type 0 where
  pub first : at ≡ index * width
  pub room : at + width ≤ places layout

-- the layout and the key of a pass are those of an array
abbrev pub IsSeated : ℕ → Option Shape → Layout → Type 0
IsSeated width key layout = (key ≡ None → ⊥) × ((shape : Shape) → key ≡ Some shape → IsShaped width 0 layout shape)

-- no call is in flight
abbrev pub IsAtRest : {R P C A T K : Type 0} {g t p : _} → Pass R P C A T Note K g t p → Type 0
IsAtRest pass = (pass_view pass).note ≡ Rest
