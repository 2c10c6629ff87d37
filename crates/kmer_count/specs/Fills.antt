-- What a rank puts into its buffer: a one for each of its k-mers, in the lane of the k-mer's home.
-- In which order those of a lane stand isn't said.
use Rattle.std.specs.Prelude.{◌≡◌, ℕ, ◌<◌, ◌==◌, List, ◌++◌, map}
use Rattle.std.specs.List.{filter}
use Rattle.std.specs.List.Sorted.{IsPermutation}
use Rattle.bcl_words.specs.declared.pair.Pair.{Pair}
use Rattle.bcl_words.specs.Numbers.{one_word}
use Rattle.bcl_segment.specs.declared.layout.Layout.{Layout}
use Rattle.bcl_buffer.specs.declared.buffer.State.TheVariants.{Filling}
use Rattle.bcl_buffer.specs.Lanes.{Lanes, lane, home_in}
use Rattle.bcl_buffer.specs.Exchanges.{at, AllFill}
use Rattle.kmer_text.specs.Kmers.{number_of}
use Rattle.kmer_blocks.specs.Blocks.{share}

-- a one for each of these k-mers whose home is the rank
abbrev pub ones_for : Layout → ℕ → List ℕ → List (Pair ℕ ℕ)
ones_for shape rank kmers = map (λ kmer. record { a = kmer; b = 1 }) (filter (λ kmer. home_in 1 shape (one_word kmer) == rank) kmers)

-- a one for each of these k-mers has gone into the lane of its home
pub record Fills (kmers : List ℕ) (old new : Lanes (Pair ℕ ℕ)) : Type 0 where
  pub rank : new.rank ≡ old.rank
  pub shape : new.shape ≡ old.shape
  pub filling : new.state ≡ Filling
  pub lanes : (rank : ℕ) → IsPermutation (lane old rank ++ ones_for old.shape rank kmers) (lane new rank)

-- the k-mers of a rank's block of lines
abbrev pub kmers_of : ℕ → ℕ → ℕ → List (List ℕ) → List ℕ
kmers_of k rank ranks lines = map number_of (share k rank ranks lines)

-- the buffers of all ranks, each with the k-mers of its block and nothing else
pub record AreFilled (k : ℕ) (shape : Layout) (lines : List (List ℕ)) (buffers : List (Lanes (Pair ℕ ℕ))) : Type 0 where
  pub fill : AllFill buffers
  pub shaped : (at buffers 0).shape ≡ shape
  pub lanes : (r d : ℕ) → r < shape.ranks → IsPermutation (ones_for shape d (kmers_of k r shape.ranks lines)) (lane (at buffers r) d)
