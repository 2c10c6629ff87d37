-- The book of contigs over ranks that share a map: the history of the map, in which the nodes of all lines are merged, each line is checked, and each walk is made by finds.
-- Of several nodes of one key the map keeps the least words, which are those of the first line.
use Rattle.std.specs.Prelude.{◌≡◌, ℕ, ◌<◌, List, [], ◌++◌, All, length, map, drop}
use Rattle.std.specs.List.Sorted.{IsPermutation}
use Rattle.bcl_merge.specs.LeastWords.{least_of}
use Rattle.bcl_event.specs.declared.event.Event.{Event}
use Rattle.bcl_event.specs.declared.map.MapCall.{MapCall}
use Rattle.bcl_event.specs.declared.map.MapCall.TheVariants.{Find, Insert, Merge, Add}
use Rattle.bcl_event.specs.declared.map.MapReply.{MapReply}
use Rattle.bcl_event.specs.History.{of, IsLegal}
use Rattle.bcl_event.specs.Map.{map_step}
use Rattle.bcl_event.specs.Merged.{MapHistory, NoneFull}
use Rattle.bcl_map.specs.declared.shape.Shape.{Shape}
use Rattle.bcl_map.specs.Map.{Words, places, home}
use Rattle.bcl_map.specs.Room.{shape_for}
use Rattle.kmer_paths.specs.Walks.{walk}
use Rattle.kmer_paths.specs.Contigs.{starts}
use Rattle.kmer_walk.specs.Nodes.{key_at, node_at, nodes, nodes_of}

abbrev pub Call : Type 0
Call = MapCall Words Words

-- the calls of a history, without ranks and replies
abbrev pub calls_of : MapHistory → List Call
calls_of history = map (λ e. e.call) history

abbrev pub IsFind : Call → Type 0
IsFind (Find key) = Unit {0}
IsFind (Insert key value) = ⊥
IsFind (Merge key value) = ⊥
IsFind (Add key n) = ⊥

-- the map has room for twice as many nodes as there are lines
abbrev pub shape_of : ℕ → List (List ℕ) → Shape
shape_of ranks lines = shape_for 1 ranks (length lines)

-- the calls that the node at a place is merged and checked by, and those of a walk from a start: the key of each of its lines but the first is found
abbrev pub merge_of : ℕ → List (List ℕ) → ℕ → Call
merge_of k lines place = Merge (key_at k lines place) (node_at k lines place)

abbrev pub find_of : ℕ → List (List ℕ) → ℕ → Call
find_of k lines place = Find (key_at k lines place)

abbrev pub walk_finds : ℕ → List (List ℕ) → ℕ → List Call
walk_finds k lines start = map (find_of k lines) (drop 1 (walk k lines start))

-- these calls stand side by side among those
pub record IsRun (run calls : List Call) : Type 0 where
  pub before : List Call
  pub after : List Call
  pub is : calls ≡ before ++ (run ++ after)

-- the event is the merge of some line's node, at the rank of its key's home
abbrev pub IsAtHome : ℕ → List (List ℕ) → Shape → Event (MapCall Words Words) (MapReply Words) → Type 0
IsAtHome k lines shape e = (place : ℕ) × (e.call ≡ merge_of k lines place) × (home shape (key_at k lines place) ≡ e.rank)

-- the nodes of all lines are merged, each once and by the rank of its key's home, and nothing else was called
pub record IsStored (k : ℕ) (lines : List (List ℕ)) (ranks : ℕ) (history : MapHistory) : Type 0 where
  pub legal : IsLegal (map_step (places (shape_of ranks lines)) least_of) [] history
  pub ranked : All (λ e. e.rank < ranks) history
  pub none_full : NoneFull history
  pub each : IsPermutation (map (merge_of k lines) (nodes lines)) (calls_of history)
  pub at_home : All (IsAtHome k lines (shape_of ranks lines)) history

pub record ContigBook (k : ℕ) (lines : List (List ℕ)) (ranks : ℕ) (history : MapHistory) : Type 0 where
  pub legal : IsLegal (map_step (places (shape_of ranks lines)) least_of) [] history
  pub ranked : All (λ e. e.rank < ranks) history
  pub none_full : NoneFull history
  pub merges : MapHistory
  pub finds : MapHistory
  pub parts : history ≡ merges ++ finds
  pub stored : IsStored k lines ranks merges
  pub all_finds : All (λ e. IsFind e.call) finds
  -- each rank finds the keys of its lines, in order, which are its checks, and then these
  pub behind : ℕ → List Call
  pub checks : (rank : ℕ) → rank < ranks → calls_of (of rank finds) ≡ map (find_of k lines) (nodes_of rank ranks lines) ++ behind rank
  -- the finds of each walk stand side by side behind the checks of some rank
  pub walks : All (λ start. (rank : ℕ) × (rank < ranks) × IsRun (walk_finds k lines start) (behind rank)) (starts k lines)
