-- What a flush of the buffers of all ranks makes of an empty map: the merges of all nodes, each by the rank of its key's home.
use Rattle.std.proofs.Common.{◌≡◌, ℕ, ◌<◌, List, [], length, map, sym, ap, ◌∙◌}
use Rattle.std.specs.List.Sorted.{IsPermutation}
use Rattle.bcl_words.specs.declared.pair.Pair.{Pair}
use Rattle.bcl_words.specs.Numbers.{one_word}
use Rattle.bcl_segment.specs.declared.layout.Layout.{Layout}
use Rattle.bcl_merge.specs.LeastWords.{least_of}
use Rattle.bcl_event.specs.History.{of}
use Rattle.bcl_event.specs.Merged.{MapHistory}
use Rattle.bcl_phase.specs.Phases.{Ended}
use Rattle.bcl_map.specs.Map.{owning, home, ranks as ranks_of, first_pairs, next, permits}
use Rattle.bcl_map.specs.Calls.{MapView}
use Rattle.bcl_map.specs.Room.{buckets}
use Rattle.bcl_buffer.specs.Lanes.{Lanes}
use Rattle.bcl_buffer.specs.Flushes.{column, MergedOnce}
use Rattle.bcl_buffer.proofs.Columns as columns
use Rattle.bcl_buffer.proofs.Dealt.{call_of, those_at}
use Rattle.bcl_buffer.proofs.Homes.{merged_at_home}
use Rattle.kmer_text.specs.declared.node.Node.{Node}
use Rattle.kmer_walk.specs.Nodes.{has_node, key_at, node_at, nodes, nodes_of}
use Rattle.kmer_walk.specs.Book.{shape_of, merge_of, IsStored}
use Rattle.kmer_walk.specs.Fills.{words_of_node, AreFilled}
use Rattle.kmer_walk.proofs.Places.{places_few}
use Rattle.kmer_walk.proofs.AllBlocks.{blocks_are_whole}

module _ (k : ℕ) (lines : List (List ℕ)) (ranks : ℕ) (some : 0 < ranks) where
  abbrev shape : Layout
  shape = record { ranks = ranks; per_rank = buckets ranks (length lines) }

  abbrev home_of : ℕ → ℕ
  home_of place = home (shape_of ranks lines) (key_at k lines place)

  -- what a rank has merged, whose pass had none before: each node whose home it is
  pub own_of : (buffers : List (Lanes (Pair ℕ Node))) → AreFilled k lines shape buffers → (rank : ℕ) (old new : MapView) (history : MapHistory) → old.mine ≡ []
      → MergedOnce one_word words_of_node least_of (shape_of ranks lines) (column rank buffers) old new → of rank history ≡ new.mine
      → IsPermutation (map (merge_of k lines) (those_at home_of rank (nodes lines))) (map call_of (of rank history))
  own_of buffers filled =
      columns.own_of one_word words_of_node home_of (merge_of k lines) ranks (λ r. nodes_of r ranks lines) (nodes lines) (blocks_are_whole (has_node lines) ranks some lines) buffers
      (sym filled.fill.ranks ∙ ap (λ (s : Layout). s.ranks) filled.shaped) filled.lanes least_of (shape_of ranks lines)

  -- what the home of the end knows of a phase that began with an empty map, in which each rank has merged the nodes whose home it is
  pub stored_by : (history : MapHistory) → Ended ranks_of first_pairs (next least_of) permits (shape_of ranks lines) owning [] history
      → ((r : ℕ) → r < ranks → IsPermutation (map (merge_of k lines) (those_at home_of r (nodes lines))) (map call_of (of r history))) → IsStored k lines ranks history
  stored_by history ended own =
      let merged = merged_at_home (key_at k lines) (node_at k lines) least_of 1 ranks (length lines) some (nodes lines) (places_few (has_node lines) 0 (length lines)) history ended own in
      record { legal = merged.legal; ranked = merged.ranked; none_full = merged.none_full; each = merged.each; at_home = merged.at_home }
