-- How the words of an array fit: what they mean by the items, and by the calls in flight.
-- The words of an item stand side by side. While a rank puts an item of its own, the words that it hasn't put yet mean nothing.
use Rattle.std.specs.Prelude.{◌≡◌, ℕ, ◌*◌, ◌/◌, ◌<◌, ◌⊎◌, ◌==◌, List, Bool, true, length, if◌then◌else◌}
use mathlib.Core.Option as plain
use lib.ListN.{get_elem?}
use Rattle.bcl_event.specs.Array.{item_at}
use Rattle.bcl_phase.specs.Flights.{Lies}
use Rattle.bcl_darray.specs.declared.array.Shape.{Shape}
use Rattle.bcl_darray.specs.declared.array.Note.{Note}
use Rattle.bcl_darray.specs.declared.array.Note.TheVariants.{Rest, Getting, Putting}
use Rattle.bcl_darray.specs.Array.{size}

-- the codes of the promises
abbrev pub owning : ℕ
owning = 2

abbrev pub reading : ℕ
reading = 8

abbrev pub anything : ℕ
anything = 9

-- so many words of an item are put, by what its rank has in flight
abbrev pub put_by : ℕ → plain.Option Note → ℕ → ℕ
put_by width (plain.some (Putting flight)) place = if flight.place == place then flight.count else width
put_by width (plain.some (Getting flight)) place = width
put_by width (plain.some Rest) place = width
put_by width plain.none place = width

-- no other rank changes this item: it is the rank's own, or all only read
abbrev pub IsFixed : Shape → ℕ → ℕ → ℕ → Type 0
IsFixed shape promise rank place = ((promise ≡ owning) × (place / shape.per_rank ≡ rank)) ⊎ (promise ≡ reading)

-- a call in flight: the item is the one whose words it gets or puts, and some of them are left
abbrev pub Flies : ℕ → Shape → ℕ → ℕ → List (List ℕ) → Note → Type 0
Flies width shape promise rank items Rest = Unit {0}
Flies width shape promise rank items (Getting flight) = IsFixed shape promise rank flight.place × (item_at flight.place items ≡ flight.object) × (flight.count < width)
Flies width shape promise rank items (Putting flight) = (promise ≡ owning) × (flight.place / shape.per_rank ≡ rank) × (item_at flight.place items ≡ flight.object) × (flight.count < width)

pub record Fits (width : ℕ) (passes : List ℕ → Bool) (shape : Shape) (promise : ℕ) (words : List ℕ) (items : List (List ℕ)) (notes : List Note) : Type 0 where
  pub count : length words ≡ size shape * width
  pub all : length items ≡ size shape
  -- each item is one
  pub whole : (i : ℕ) → i < size shape → passes (item_at i items) ≡ true
  pub lies : (i : ℕ) → i < size shape → Lies words (i * width) (item_at i items) (put_by width (get_elem? notes (i / shape.per_rank)) i)
  pub flies : (rank : ℕ) (note : Note) → get_elem? notes rank ≡ plain.some note → Flies width shape promise rank items note
