-- What the ranks have merged behind a flush: for each rank a one for each k-mer of all lines whose home it is, in some order.
use Rattle.std.proofs.Common.{◌≡◌, ℕ, ◌<◌, List, [], map, refl, sym, ap, ◌∙◌, subst}
use Rattle.std.specs.List.{flat_map, range_with_len}
use Rattle.std.specs.List.Sorted.{IsPermutation}
use Rattle.std.proofs.lemmas.Simd.{map-map}
use Rattle.std.proofs.lemmas.List.{map-append}
use Rattle.std.proofs.lemmas.List.Concat.{flat_map-append}
use Rattle.std.proofs.lemmas.List.Sorted.{IsPermutation-map}
use Rattle.bcl_words.specs.declared.pair.Pair.{Pair}
use Rattle.bcl_words.specs.Numbers.{one_word}
use Rattle.bcl_segment.specs.declared.layout.Layout.{Layout}
use Rattle.bcl_merge.specs.Sum.{sum_of}
use Rattle.bcl_event.specs.declared.map.MapCall.{MapCall}
use Rattle.bcl_event.specs.History.{of}
use Rattle.bcl_event.specs.Merged.{MapHistory}
use Rattle.bcl_map.specs.Map.{Words}
use Rattle.bcl_map.specs.Calls.{MapView}
use Rattle.bcl_map.specs.Room.{buckets}
use Rattle.bcl_buffer.specs.Lanes.{Lanes, lane}
use Rattle.bcl_buffer.specs.Exchanges.{at}
use Rattle.bcl_buffer.specs.Drains.{merge_pair}
use Rattle.bcl_buffer.specs.Flushes.{column, MergedOnce}
use Rattle.bcl_buffer.proofs.Columns as columns
use Rattle.bcl_buffer.proofs.Dealt.{call_of, those_at}
use Rattle.kmer_text.specs.Kmers.{number_of}
use Rattle.kmer_text.specs.Windows.{windows, all_windows, total}
use Rattle.kmer_blocks.specs.Blocks.{block}
use Rattle.kmer_blocks.proofs.Blocks.{blocks_are_all}
use Rattle.kmer_count.specs.Book.{shape_of, one_more}
use Rattle.kmer_count.specs.Fills.{ones_for, kmers_of, AreFilled}
use Rattle.kmer_count.proofs.Books.{home_of}

module _ (k : ℕ) (lines : List (List ℕ)) where
  abbrev numbers : List ℕ
  numbers = map number_of (all_windows k lines)

  module _ (ranks : ℕ) (some : 0 < ranks) (buffers : List (Lanes (Pair ℕ ℕ))) (filled : AreFilled k (record { ranks = ranks; per_rank = buckets ranks (total k lines) }) lines buffers) where
    abbrev shape : Layout
    shape = record { ranks = ranks; per_rank = buckets ranks (total k lines) }

    -- the k-mers of all blocks are those of all lines
    whole : flat_map (λ r. kmers_of k r ranks lines) (range_with_len 0 ranks) ≡ numbers
    whole =
        columns.of_parts (λ (ls : List (List ℕ)). map number_of (all_windows k ls)) refl (λ xs ys. ap (map number_of) (flat_map-append (windows k) xs ys) ∙ map-append number_of (all_windows k xs) (all_windows k ys))
        (λ r. block r ranks lines) (range_with_len 0 ranks)
        ∙ ap (λ (ls : List (List ℕ)). map number_of (all_windows k ls)) (blocks_are_all ranks some lines)

    -- the merges of a lane
    lanes : (r d : ℕ) → r < ranks → IsPermutation (map one_more (those_at (home_of k ranks lines) d (kmers_of k r ranks lines))) (map (merge_pair one_word one_word) (lane (at buffers r) d))
    lanes r d low =
        subst (λ (l : List (MapCall Words Words)). IsPermutation l (map (merge_pair one_word one_word) (lane (at buffers r) d)))
        (map-map (merge_pair one_word one_word) (λ kmer. record { a = kmer; b = 1 }) (those_at (home_of k ranks lines) d (kmers_of k r ranks lines)))
        (IsPermutation-map (merge_pair one_word one_word) (ones_for shape d (kmers_of k r ranks lines)) (lane (at buffers r) d) (filled.lanes r d low))

    -- what a rank has merged, whose pass had none before: each number whose home it is
    pub own_of : (rank : ℕ) (old new : MapView) (history : MapHistory) → old.mine ≡ [] → MergedOnce one_word one_word sum_of (shape_of ranks (total k lines)) (column rank buffers) old new → of rank history ≡ new.mine
        → IsPermutation (map one_more (those_at (home_of k ranks lines) rank numbers)) (map call_of (of rank history))
    own_of = columns.own_of one_word one_word (home_of k ranks lines) one_more ranks (λ r. kmers_of k r ranks lines) numbers whole buffers (sym filled.fill.ranks ∙ ap (λ (s : Layout). s.ranks) filled.shaped) lanes sum_of (shape_of ranks (total k lines))
