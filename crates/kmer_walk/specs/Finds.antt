-- Finds in the map of nodes, once all nodes are stored: each key's value is the node of the first line that has it.
use Rattle.std.specs.Prelude.{◌≡◌, ℕ, ◌<◌, ◌^◌, List, [], ◌++◌, All, Option, map}
use Rattle.std.specs.Option.{option_map}
use Rattle.bcl_words.specs.Numbers.{one_word}
use Rattle.bcl_merge.specs.LeastWords.{least_of}
use Rattle.bcl_event.specs.History.{state_after}
use Rattle.bcl_event.specs.Map.{value_at, map_step}
use Rattle.bcl_event.specs.Merged.{MapHistory}
use Rattle.bcl_map.specs.declared.shape.Shape.{Shape}
use Rattle.bcl_map.specs.Map.{places, finding}
use Rattle.bcl_map.specs.Calls.{MapView}
use Rattle.bcl_buffer.specs.Drains.{Ran}
use Rattle.kmer_text.specs.declared.node.Node.{Node}
use Rattle.kmer_text.specs.Kmers.{word_of}
use Rattle.kmer_paths.specs.Keys.{first_place}
use Rattle.kmer_walk.specs.Nodes.{node_at, nodes_of, starts_of}
use Rattle.kmer_walk.specs.Book.{Call, calls_of, IsFind, find_of, walk_finds, IsRun}
use Rattle.kmer_walk.specs.Fills.{words_of_node}

-- behind this history the map has the node of the first line of each key, and no other key
abbrev pub HasFirsts : ℕ → List (List ℕ) → Shape → MapHistory → Type 0
HasFirsts k lines shape history = (number : ℕ) → number < 4 ^ k
    → value_at (one_word number) (state_after (map_step (places shape) least_of) [] history) ≡ option_map (node_at k lines) (first_place k lines (word_of k number))

-- the node is that of the first line whose key has this number, if there is one
abbrev pub IsFirstOf : ℕ → List (List ℕ) → ℕ → Option Node → Type 0
IsFirstOf k lines number found = option_map words_of_node found ≡ option_map (node_at k lines) (first_place k lines (word_of k number))

-- the pass finds, and since this history nothing but finds were made
pub record Asks (history : MapHistory) (view : MapView) : Type 0 where
  pub promise : view.promise ≡ finding
  pub late : MapHistory
  pub since : view.seen ≡ history ++ late
  pub finds : All (λ e. IsFind e.call) late

-- these calls were made, in order, and no other
pub record Makes (shape : Shape) (calls : List Call) (old new : MapView) : Type 0 where
  pub events : MapHistory
  pub ran : Ran least_of shape old new events
  pub calls_are : calls_of events ≡ calls

-- a rank has checked the lines of its block, and behind that it has walked from each start among them
pub record ChecksAndWalks (k : ℕ) (lines : List (List ℕ)) (shape : Shape) (rank ranks : ℕ) (old new : MapView) : Type 0 where
  pub behind : List Call
  pub makes : Makes shape (map (find_of k lines) (nodes_of rank ranks lines) ++ behind) old new
  pub walks : All (λ start. IsRun (walk_finds k lines start) behind) (starts_of k rank ranks lines)
