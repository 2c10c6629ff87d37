-- Nodes as words.
-- The line is a word, and both codes are another.
use Rattle.std.specs.Prelude.{ℕ, ◌+◌, ◌*◌, ◌/◌, ◌%◌, List, [], ◌∷◌, Bool, ◌&&◌, nat_le, slice_index}
use Rattle.bcl_words.specs.Words.{is_words}

abbrev pub node_words : ℕ → ℕ → ℕ → List ℕ
node_words line back forward = line ∷ (8 * back + forward) ∷ 0 ∷ 0 ∷ 0 ∷ 0 ∷ 0 ∷ 0 ∷ []

-- 8 * back + forward, of codes at most 4
abbrev pub are_codes : ℕ → Bool
are_codes word = nat_le (word / 8) 4 && nat_le (word % 8) 4

abbrev pub is_node : List ℕ → Bool
is_node w = is_words 2 w && are_codes (slice_index w 1)
