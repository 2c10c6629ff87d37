-- A drain: the pairs of a buffer are merged into a map by the rank of their home.
-- It goes through them in order, and stops at the first for which there is no bucket.
use Rattle.std.specs.Prelude.{◌≡◌, ℕ, List, [], ◌∷◌, ◌++◌, map, Some, replicate}
use Rattle.bcl_words.specs.declared.pair.Pair.{Pair}
use Rattle.bcl_segment.specs.declared.layout.Layout.{Layout}
use Rattle.bcl_event.specs.declared.map.MapCall.{MapCall}
use Rattle.bcl_event.specs.declared.map.MapCall.TheVariants.{Merge}
use Rattle.bcl_event.specs.declared.map.MapReply.TheVariants.{Full}
use Rattle.bcl_event.specs.History.{event}
use Rattle.bcl_event.specs.Merged.{MapHistory, NoneFull}
use Rattle.bcl_phase.specs.Stands as phase
use Rattle.bcl_map.specs.declared.shape.Shape.{Shape}
use Rattle.bcl_map.specs.Map.{Words, ranks, first_pairs, next, permits}
use Rattle.bcl_map.specs.Calls.{MapView, Stands}
use Rattle.bcl_buffer.specs.declared.buffer.State.TheVariants.{Filling}
use Rattle.bcl_buffer.specs.declared.draining.Drained.{Drained}
use Rattle.bcl_buffer.specs.declared.draining.Drained.TheVariants.{All as drained_all, Full as drained_full}
use Rattle.bcl_buffer.specs.Lanes.{Lanes, items}

-- the map of a buffer's shape, with keys of so many words
abbrev pub shape_in : ℕ → Layout → Shape
shape_in width shape = record { ranks = shape.ranks; per_rank = shape.per_rank; width = width }

-- the pass is of the buffer's rank, and of a map of its shape
pub record IsFor {P : Type 0} (width : ℕ) (buffer : Lanes P) (view : MapView) : Type 0 where
  pub of : view.key ≡ Some (shape_in width buffer.shape)
  pub rank : view.rank ≡ buffer.rank

-- any number of calls of a map, with these events
abbrev pub Ran : (Words → Words → Words) → Shape → MapView → MapView → MapHistory → Type 0
Ran op shape old new es = phase.Ran ranks first_pairs (next op) permits shape old new es

module _ {K V : Type 0} (key : K → Words) (value : V → Words) where
  -- the merge of a pair
  abbrev pub merge_pair : Pair K V → MapCall Words Words
  merge_pair p = Merge (key p.a) (value p.b)

  module _ (op : Words → Words → Words) (shape : Shape) where
    -- these pairs were merged, in order, each into a bucket, and nothing else was called
    pub record Merged (pairs : List (Pair K V)) (old new : MapView) : Type 0 where
      pub events : MapHistory
      pub ran : Ran op shape old new events
      pub calls : map (λ e. e.call) events ≡ map merge_pair pairs
      pub none_full : NoneFull events

    -- the pairs before this one were merged, then it was, for which there was no bucket, and those behind it are left
    pub record StopsAt (p : Pair K V) (all left : List (Pair K V)) (old new : MapView) : Type 0 where
      pub done : List (Pair K V)
      pub between : MapView
      pub merged : Merged done old between
      pub refused : Stands op shape between new (event between.rank (merge_pair p) Full ∷ [])
      pub rest : all ≡ done ++ p ∷ left

    -- what became of the pairs of a lane
    abbrev pub DrainsLane : List (Pair K V) → List (Pair K V) → MapView → MapView → Drained K V → Type 0
    DrainsLane old new view view' drained_all = Merged old view view' × (new ≡ [])
    DrainsLane old new view view' (drained_full p) = StopsAt p old new view view'

    -- and of those of a buffer
    abbrev pub Drains : Lanes (Pair K V) → Lanes (Pair K V) → MapView → MapView → Drained K V → Type 0
    Drains old new view view' drained_all = Merged (items old) view view' × (new ≡ record old { state = Filling; lanes = replicate old.shape.ranks [] })
    Drains old new view view' (drained_full p) = StopsAt p (items old) (items new) view view' × (new ≡ record old { lanes = new.lanes })
