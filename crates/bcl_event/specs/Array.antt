-- The array: a list of items whose length doesn't change.
-- Items are their words.
use Rattle.std.specs.Prelude.{◌≡◌, ℕ, min, List, [], Bool, true, slice_index_or, slice_set}
use Rattle.bcl_words.specs.Numbers.{one_word}
use Rattle.bcl_event.specs.Numbers.{number, added}
use Rattle.bcl_event.specs.declared.array.ArrayCall.{ArrayCall}
use Rattle.bcl_event.specs.declared.array.ArrayCall.TheVariants.{Read, Write, FetchAdd, FetchMin}
use Rattle.bcl_event.specs.declared.array.ArrayReply.{ArrayReply}
use Rattle.bcl_event.specs.declared.array.ArrayReply.TheVariants.{Value, Done, Was}

abbrev pub item_at : ℕ → List (List ℕ) → List ℕ
item_at place items = slice_index_or items place []

-- the word of the lesser number
abbrev pub lesser : ℕ → List ℕ → List ℕ
lesser n words = one_word (min (number words) n)

-- the reply to a call, and the state that it leaves
abbrev pub array_step : List (List ℕ) → ArrayCall (List ℕ) → ArrayReply (List ℕ) × List (List ℕ)
array_step items (Read place) = (Value (item_at place items), items)
array_step items (Write place item) = (Done, slice_set items place item)
array_step items (FetchAdd place n) = (Was (number (item_at place items)), slice_set items place (added n (item_at place items)))
array_step items (FetchMin place n) = (Was (number (item_at place items)), slice_set items place (lesser n (item_at place items)))

module _ {T : Type 0} where
  -- the place that a call names
  abbrev pub place_of : ArrayCall T → ℕ
  place_of (Read place) = place
  place_of (Write place item) = place
  place_of (FetchAdd place n) = place
  place_of (FetchMin place n) = place

  -- where a call makes a number, its word is that of an item
  abbrev pub MakesItems : (List ℕ → Bool) → List (List ℕ) → ArrayCall T → Type 0
  MakesItems passes items (Read place) = Unit {0}
  MakesItems passes items (Write place item) = Unit {0}
  MakesItems passes items (FetchAdd place n) = passes (added n (item_at place items)) ≡ true
  MakesItems passes items (FetchMin place n) = passes (lesser n (item_at place items)) ≡ true

-- a call and a reply at their words
module _ {T : Type 0} (words : T → List ℕ) where
  abbrev pub array_call : ArrayCall T → ArrayCall (List ℕ)
  array_call (Read place) = Read place
  array_call (Write place item) = Write place (words item)
  array_call (FetchAdd place n) = FetchAdd place n
  array_call (FetchMin place n) = FetchMin place n

  abbrev pub array_reply : ArrayReply T → ArrayReply (List ℕ)
  array_reply (Value item) = Value (words item)
  array_reply Done = Done
  array_reply (Was n) = Was n
