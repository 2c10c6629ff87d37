-- What a rank puts into its buffer: the node of each line of its block, in the lane of its key's home.
-- A lane is read by the calls that merge its pairs; in which order they stand isn't said.
use Rattle.std.specs.Prelude.{◌≡◌, ℕ, ◌<◌, ◌==◌, List, ◌++◌, map}
use Rattle.std.specs.List.{filter}
use Rattle.std.specs.List.Sorted.{IsPermutation}
use Rattle.bcl_words.specs.declared.pair.Pair.{Pair}
use Rattle.bcl_words.specs.Numbers.{one_word}
use Rattle.bcl_segment.specs.declared.layout.Layout.{Layout}
use Rattle.bcl_map.specs.Map.{Words}
use Rattle.bcl_buffer.specs.declared.buffer.State.TheVariants.{Filling}
use Rattle.bcl_buffer.specs.Lanes.{Lanes, lane, home_in}
use Rattle.bcl_buffer.specs.Exchanges.{at, AllFill}
use Rattle.bcl_buffer.specs.Drains.{merge_pair}
use Rattle.kmer_text.specs.declared.node.Node.{Node}
use Rattle.kmer_text.specs.NodeWords.{node_words}
use Rattle.kmer_walk.specs.Nodes.{key_at, nodes_of}
use Rattle.kmer_walk.specs.Book.{Call, merge_of}

abbrev pub words_of_node : Node → Words
words_of_node n = node_words n.line n.back n.forward

-- the merges of the pairs that wait for a rank
abbrev pub waiting : Lanes (Pair ℕ Node) → ℕ → List Call
waiting buffer rank = map (merge_pair one_word words_of_node) (lane buffer rank)

-- the merges of the nodes at these places whose home is the rank
abbrev pub merges_for : ℕ → List (List ℕ) → Layout → ℕ → List ℕ → List Call
merges_for k lines shape rank places = map (merge_of k lines) (filter (λ place. home_in 1 shape (key_at k lines place) == rank) places)

-- the nodes at these places have gone into the lanes of their homes
pub record Fills (k : ℕ) (lines : List (List ℕ)) (places : List ℕ) (old new : Lanes (Pair ℕ Node)) : Type 0 where
  pub rank : new.rank ≡ old.rank
  pub shape : new.shape ≡ old.shape
  pub filling : new.state ≡ Filling
  pub lanes : (rank : ℕ) → IsPermutation (waiting old rank ++ merges_for k lines old.shape rank places) (waiting new rank)

-- the buffers of all ranks, each with the nodes of its block and nothing else
pub record AreFilled (k : ℕ) (lines : List (List ℕ)) (shape : Layout) (buffers : List (Lanes (Pair ℕ Node))) : Type 0 where
  pub fill : AllFill buffers
  pub shaped : (at buffers 0).shape ≡ shape
  pub lanes : (r d : ℕ) → r < shape.ranks → IsPermutation (merges_for k lines shape d (nodes_of r shape.ranks lines)) (waiting (at buffers r) d)
