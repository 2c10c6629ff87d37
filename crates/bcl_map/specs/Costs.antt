-- What an insertion costs: of its exchanges at most as many are lost as other ranks inserted keys since its pass had last seen the history.
use Rattle.std.specs.Prelude.{ℕ, ◌+◌, ◌==◌, List, [], ◌∷◌, length, drop, if◌then◌else◌}
use Rattle.bcl_event.specs.declared.event.Event.{Event}
use Rattle.bcl_event.specs.History.{state_after}
use Rattle.bcl_event.specs.declared.map.MapCall.{MapCall}
use Rattle.bcl_event.specs.declared.map.MapReply.{MapReply}
use Rattle.bcl_event.specs.declared.map.MapReply.TheVariants.{Value, Absent, New, Replaced, Was, Full}
use Rattle.bcl_map.specs.declared.shape.Shape.{Shape}
use Rattle.bcl_map.specs.Map.{Words, first_pairs, next}
use Rattle.bcl_map.specs.Calls.{MapView}

abbrev pub Events : Type 0
Events = List (Event (MapCall Words Words) (MapReply Words))

abbrev pub is_new : MapReply Words → ℕ
is_new (Value v) = 0
is_new Absent = 0
is_new New = 1
is_new Replaced = 0
is_new (Was n) = 0
is_new Full = 0

-- how many keys ranks other than this one inserted
abbrev pub others_new : ℕ → Events → ℕ
others_new r [] = 0
others_new r (e ∷ es) = (if e.rank == r then 0 else is_new e.reply) + others_new r es

-- how many keys other ranks inserted, of what a pass has come to see
abbrev pub taken : MapView → MapView → ℕ
taken old new = others_new old.rank (drop (length old.seen) new.seen)

-- how many keys there are after a history
abbrev pub keys : (Words → Words → Words) → Shape → Events → ℕ
keys op shape history = length (state_after (next op shape) (first_pairs shape) history)
