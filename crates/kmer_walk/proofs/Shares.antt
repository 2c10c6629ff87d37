-- The buffers of all ranks, behind a superstep of fillers.
use Rattle.std.proofs.Common.{◌≡◌, ℕ, ◌<◌, List, [], ◌++◌, length, map, replicate, sym, ◌∙◌, subst, arith}
use Rattle.std.specs.Prelude.{All, IsOk, OnOk}
use Rattle.std.specs.List.{AllZip}
use Rattle.std.specs.List.Sorted.{IsPermutation}
use Rattle.std.proofs.lemmas.List.{length-map}
use mathlib.Core.Option.{some}
use lib.ListN.{get_elem?}
use Rattle.bcl_words.specs.declared.pair.Pair.{Pair}
use Rattle.bcl_words.specs.Numbers.{one_word}
use Rattle.bcl_segment.specs.declared.layout.Layout.{Layout}
use Rattle.bcl_phase.proofs.Zips.{zip_long}
use Rattle.bcl_buffer.specs.declared.buffer.State.TheVariants.{Filling}
use Rattle.bcl_buffer.specs.Lanes.{Lanes}
use Rattle.bcl_buffer.specs.Exchanges.{at}
use Rattle.bcl_buffer.specs.Drains.{merge_pair}
use Rattle.bcl_buffer.proofs.Shares.{each_kit, all_fill, none_there, on_ok}
use Rattle.kmer_text.specs.declared.node.Node.{Node}
use Rattle.kmer_walk.specs.Nodes.{nodes_of}
use Rattle.kmer_walk.specs.Fills.{words_of_node, waiting, merges_for, Fills, AreFilled}
use Rattle.kmer_walk.specs.declared.filler.Filler.{Filler}

abbrev pub Step : Filler → Filler → Type 0
Step k l = OnOk l.filled (Fills k.k k.lines.now (nodes_of k.rank k.ranks k.lines.now) k.buffer l.buffer)

abbrev IsDone : Filler → Type 0
IsDone f = IsOk f.filled

module _ (k : ℕ) (shape : Layout) (lines : List (List ℕ)) where
  abbrev empty : ℕ → Lanes (Pair ℕ Node)
  empty r = record { rank = r; shape = shape; state = Filling; lanes = replicate shape.ranks [] }

  abbrev pub IsMade : ℕ → Filler → Type 0
  IsMade r f = (f.lines.now ≡ lines) × (f.k ≡ k) × (f.rank ≡ r) × (f.ranks ≡ shape.ranks) × (f.buffer ≡ empty r)

  module _ (kits kits' : List Filler) (some_rank : 0 < shape.ranks) (count : length kits ≡ shape.ranks) (made : (r : ℕ) (f : Filler) → get_elem? kits r ≡ some f → IsMade r f) (steps : AllZip Step kits kits') (filled : All IsDone kits') where
    abbrev pub buffers : List (Lanes (Pair ℕ Node))
    buffers = map (λ f. f.buffer) kits'

    each : (r : ℕ) → r < shape.ranks → Fills k lines (nodes_of r shape.ranks lines) (empty r) (at buffers r)
    each r low =
        let it = each_kit (λ (f : Filler). f.buffer) IsMade Step IsDone kits kits' made steps filled r (omega arith) in
        let f = it.0 in
        let now = it.1 in
        let is : IsMade r f = it.2 in
        let fills : Fills f.k f.lines.now (nodes_of f.rank f.ranks f.lines.now) f.buffer now.buffer = on_ok now.filled it.4 it.3 in
        subst (Fills k lines (nodes_of r shape.ranks lines) (empty r)) (sym it.5)
        (subst (λ (z : ℕ × ℕ × ℕ × List (List ℕ) × Lanes (Pair ℕ Node)). Fills z.0 z.3 (nodes_of z.1 z.2 z.3) z.4 now.buffer) (λ j. (is.1 j, is.2 j, is.3 j, is.0 j, is.4 j)) fills)

    pub are_filled : AreFilled k lines shape buffers
    are_filled = record {
      fill = all_fill shape some_rank buffers (length-map kits' (λ f. f.buffer) ∙ (zip_long Step kits kits' steps ∙ count)) (λ r low. ((each r low).rank, (each r low).shape, (each r low).filling));
      shaped = (each 0 some_rank).shape;
      lanes = λ r d low. subst (λ (l : List (Pair ℕ Node)). IsPermutation (map (merge_pair one_word words_of_node) l ++ merges_for k lines shape d (nodes_of r shape.ranks lines)) (waiting (at buffers r) d)) (none_there shape.ranks d) ((each r low).lanes d);
    }
