-- Promises: which calls the ranks may make side by side, container by container.
-- Each table says of a promise, a rank and a call whether the promise permits the call to that rank.
use Rattle.std.specs.Prelude.{◌≡◌, ℕ, ◌/◌, ◌==◌, Option, Some, None, if◌then◌else◌}
use Rattle.bcl_event.specs.declared.map.MapCall.{MapCall}
use Rattle.bcl_event.specs.declared.map.MapCall.TheVariants.{Find, Insert, Merge, Add}
use Rattle.bcl_event.specs.declared.queue.QueueCall.{QueueCall}
use Rattle.bcl_event.specs.declared.queue.QueueCall.TheVariants.{Push, Pop}
use Rattle.bcl_event.specs.declared.array.ArrayCall.{ArrayCall}
use Rattle.bcl_event.specs.declared.array.ArrayCall.TheVariants.{Read, Write}
use Rattle.bcl_event.specs.declared.filter.FilterCall.{FilterCall}

pub data Promise : Type 0 where
  find : Promise
  own : Promise
  add : Promise
  find_insert : Promise
  push : Promise
  pop : Promise
  push_pop : Promise
  read : Promise
  any : Promise

-- the number of a promise, by which a phase names it
abbrev pub code : Promise → ℕ
code find = 1
code own = 2
code add = 3
code find_insert = 4
code push = 5
code pop = 6
code push_pop = 7
code read = 8
code any = 9

-- the promise of a number
abbrev pub promise_of : ℕ → Option Promise
promise_of n =
    if n == 1 then Some find
    else if n == 2 then Some own
    else if n == 3 then Some add
    else if n == 4 then Some find_insert
    else if n == 5 then Some push
    else if n == 6 then Some pop
    else if n == 7 then Some push_pop
    else if n == 8 then Some read
    else if n == 9 then Some any
    else None

-- what a table says at the number of a promise; a number that isn't one permits nothing
abbrev pub PermitsBy : {C : Type 0} → (Promise → ℕ → C → Type 0) → Option Promise → ℕ → C → Type 0
PermitsBy table None rank call = ⊥
PermitsBy table (Some promise) rank call = table promise rank call

abbrev pub Permits : {C : Type 0} → (Promise → ℕ → C → Type 0) → ℕ → ℕ → C → Type 0
Permits table n = PermitsBy table (promise_of n)

-- A map, each of whose keys has a home, a rank.
--   find: finds
--   own: finds, inserts and merges of keys whose home is the rank
--   add: additions
--   find_insert: finds, inserts and merges of any key
module _ {K V : Type 0} (home : K → ℕ) where
  abbrev pub map_permits : Promise → ℕ → MapCall K V → Type 0
  map_permits find rank (Find key) = Unit {0}
  map_permits own rank (Find key) = home key ≡ rank
  map_permits own rank (Insert key value) = home key ≡ rank
  map_permits own rank (Merge key value) = home key ≡ rank
  map_permits add rank (Add key n) = Unit {0}
  map_permits find_insert rank (Find key) = Unit {0}
  map_permits find_insert rank (Insert key value) = Unit {0}
  map_permits find_insert rank (Merge key value) = Unit {0}
  map_permits promise rank call = ⊥

-- A circular queue.
--   push_pop: pushes and pops
module _ {T : Type 0} where
  abbrev pub circular_permits : Promise → ℕ → QueueCall T → Type 0
  circular_permits push_pop rank call = Unit {0}
  circular_permits promise rank call = ⊥

  -- A fast queue.
  --   push: pushes
  --   pop: pops
  abbrev pub fast_permits : Promise → ℕ → QueueCall T → Type 0
  fast_permits push rank (Push item) = Unit {0}
  fast_permits pop rank Pop = Unit {0}
  fast_permits promise rank call = ⊥

-- An array, of which each rank has so many items, its own block.
--   any: any call
--   own: reads and writes in the rank's own block
--   read: reads
module _ {T : Type 0} (per_rank : ℕ) where
  abbrev pub array_permits : Promise → ℕ → ArrayCall T → Type 0
  array_permits any rank call = Unit {0}
  array_permits own rank (Read place) = place / per_rank ≡ rank
  array_permits own rank (Write place item) = place / per_rank ≡ rank
  array_permits read rank (Read place) = Unit {0}
  array_permits promise rank call = ⊥

-- A filter.
--   any: any call
module _ {K : Type 0} where
  abbrev pub filter_permits : Promise → ℕ → FilterCall K → Type 0
  filter_permits any rank call = Unit {0}
  filter_permits promise rank call = ⊥
