-- A list that is dealt to ranks in blocks, and the lines of an input that are dealt so.
-- The block of a rank is the items from where it begins up to where that of the next rank does.
use Rattle.std.specs.Prelude.{ℕ, ◌+◌, ◌*◌, ◌/◌, List, length, slice_range}
use Rattle.kmer_text.specs.Windows.{all_windows}

module _ {X : Type 0} where
  -- where the block of a rank begins, of n ranks
  abbrev pub begins_at : ℕ → ℕ → List X → ℕ
  begins_at rank n xs = rank * length xs / n

  abbrev pub block : ℕ → ℕ → List X → List X
  block rank n xs = slice_range xs (begins_at rank n xs) (begins_at (rank + 1) n xs)

-- the windows of the lines of a rank's block, one line after another
abbrev pub share : ℕ → ℕ → ℕ → List (List ℕ) → List (List ℕ)
share k rank n lines = all_windows k (block rank n lines)
