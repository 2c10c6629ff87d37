-- Nodes that are read from words.
use Rattle.std.proofs.Common.{◌≡◌, ℕ, ◌+◌, ◌*◌, ◌/◌, ◌%◌, List, [], ◌∷◌, true, ap₂, sym, arith}
use Rattle.std.specs.Prelude.{slice_index}
use Rattle.bcl_words.specs.Words.{IsWords, is_words}
use Rattle.bcl_words.specs.WordLaws.{words_if_test}
use Rattle.kmer_text.specs.NodeWords.{node_words}

-- words that pass are those of the line and the codes that are read
pub node_read : (w : List ℕ) → is_words 2 w ≡ true → node_words (slice_index w 0) (slice_index w 1 / 8) (slice_index w 1 % 8) ≡ w
node_read w p = sym (read w (words_if_test 2 w p))
  where
    read : (w : List ℕ) → IsWords 2 w → w ≡ node_words (slice_index w 0) (slice_index w 1 / 8) (slice_index w 1 % 8)
    read [] h = absurd (omega (arith, h.len))
    read (x ∷ []) h = absurd (omega (arith, h.len))
    read (x ∷ y ∷ xs) h =
        let word : y ≡ 8 * (y / 8) + y % 8 = omega arith in
        ap₂ (λ (n : ℕ) (l : List ℕ). x ∷ n ∷ l) word h.zeros
