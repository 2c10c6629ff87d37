-- Numbers as words.
-- A number below 2^64 is its own word. A longer one is its low 64 bits, and then the others.
use Rattle.std.specs.Prelude.{ℕ, ◌^◌, ◌/◌, ◌%◌, List, [], ◌∷◌, Bool, ◌&&◌, nat_lt, slice_index}
use Rattle.bcl_words.specs.Words.{is_words}

abbrev pub one_word : ℕ → List ℕ
one_word x = x ∷ 0 ∷ 0 ∷ 0 ∷ 0 ∷ 0 ∷ 0 ∷ 0 ∷ []

abbrev pub two_words : ℕ → List ℕ
two_words x = x % 2 ^ 64 ∷ x / 2 ^ 64 ∷ 0 ∷ 0 ∷ 0 ∷ 0 ∷ 0 ∷ 0 ∷ []

-- one word, a number below the bound
abbrev pub is_below : ℕ → List ℕ → Bool
is_below bound w = is_words 1 w && nat_lt (slice_index w 0) bound
