-- The nodes of lines, which are named by their places, from 0.
-- Each line that isn't empty has a key, and a node, which is its number, from 1, and the codes of its extensions.
use Rattle.std.specs.Prelude.{ℕ, ◌+◌, ◌-◌, ◌==◌, not, Bool, List, length, take, filter}
use Rattle.std.specs.List.{range_with_len}
use Rattle.bcl_words.specs.Numbers.{one_word}
use Rattle.bcl_map.specs.Map.{Words}
use Rattle.kmer_text.specs.Kmers.{number_of}
use Rattle.kmer_text.specs.NodeWords.{node_words}
use Rattle.kmer_text.specs.Nodes.{code_of, line_at}
use Rattle.kmer_blocks.specs.Blocks.{begins_at}
use Rattle.kmer_paths.specs.Walks.{backward, forward}
use Rattle.kmer_paths.specs.Contigs.{is_start}

abbrev pub has_node : List (List ℕ) → ℕ → Bool
has_node lines place = not (length (line_at lines place) == 0)

-- the number of the key at a place, and the words of the key and of the node
abbrev pub number_at : ℕ → List (List ℕ) → ℕ → ℕ
number_at k lines place = number_of (take k (line_at lines place))

abbrev pub key_at : ℕ → List (List ℕ) → ℕ → Words
key_at k lines place = one_word (number_at k lines place)

abbrev pub node_at : ℕ → List (List ℕ) → ℕ → Words
node_at k lines place = node_words (place + 1) (code_of (backward k (line_at lines place))) (code_of (forward k (line_at lines place)))

-- the places of all nodes
abbrev pub nodes : List (List ℕ) → List ℕ
nodes lines = filter (has_node lines) (range_with_len 0 (length lines))

-- the places from one up to another that have a node, and those that are starts
abbrev pub nodes_from : List (List ℕ) → ℕ → ℕ → List ℕ
nodes_from lines first end = filter (has_node lines) (range_with_len first (end - first))

abbrev pub starts_from : ℕ → List (List ℕ) → ℕ → ℕ → List ℕ
starts_from k lines first end = filter (is_start k lines) (range_with_len first (end - first))

-- those of a rank's block of lines
abbrev pub nodes_of : ℕ → ℕ → List (List ℕ) → List ℕ
nodes_of rank ranks lines = nodes_from lines (begins_at rank ranks lines) (begins_at (rank + 1) ranks lines)

abbrev pub starts_of : ℕ → ℕ → ℕ → List (List ℕ) → List ℕ
starts_of k rank ranks lines = starts_from k lines (begins_at rank ranks lines) (begins_at (rank + 1) ranks lines)
