-- The check of lines against the first lines of their keys.
use Rattle.std.specs.Prelude.{◌≡◌, ℕ, ◌+◌, ◌<◌, ◌≤◌, true, false, List, Option, Some, None, slice_index_or}
use Rattle.bcl_map.specs.declared.shape.Shape.{Shape}
use Rattle.bcl_map.specs.Calls.{start_at}
use Rattle.kmer_text.specs.Nodes.{line_at}
use Rattle.kmer_paths.specs.Keys.{conflicts}
use Rattle.kmer_walk.specs.declared.checker.Ready.{Ready}
use Rattle.kmer_walk.specs.Nodes.{has_node, number_at, key_at, node_at}
use Rattle.kmer_walk.specs.Fills.{words_of_node}

-- no line from one place up to another conflicts
abbrev pub AreConsistent : ℕ → List (List ℕ) → ℕ → ℕ → Type 0
AreConsistent k lines first end = (place : ℕ) → first ≤ place → place < end → conflicts k lines (line_at lines place) ≡ false

-- the line with this number, counted from 1, is the first of them that does
pub record IsConflict (k : ℕ) (lines : List (List ℕ)) (first end number : ℕ) : Type 0 where
  pub place : ℕ
  pub is : number ≡ place + 1
  pub low : first ≤ place
  pub high : place < end
  pub here : conflicts k lines (line_at lines place) ≡ true
  pub before : AreConsistent k lines first place

-- what is known of a line before it is checked: its key, its node, and where the path of the key begins
abbrev pub IsReady : ℕ → List (List ℕ) → Shape → ℕ → Option Ready → Type 0
IsReady k lines shape place None = has_node lines place ≡ false
IsReady k lines shape place (Some it) = (has_node lines place ≡ true) × (it.key ≡ number_at k lines place) × (words_of_node it.node ≡ node_at k lines place) × (it.start ≡ start_at shape (key_at k lines place))

-- the same of the first lines from a place on, so many
abbrev pub AreReady : ℕ → List (List ℕ) → Shape → ℕ → ℕ → List (Option Ready) → Type 0
AreReady k lines shape from count batch = (i : ℕ) → i < count → IsReady k lines shape (from + i) (slice_index_or batch i None)
