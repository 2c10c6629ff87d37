-- Pairs as words.
-- The words of the first part stand before those of the second.
use Rattle.std.specs.Prelude.{ℕ, ◌+◌, ◌-◌, ◌*◌, ◌^◌, ◌%◌, ◌/◌, List, [], ◌++◌, Bool, ◌&&◌, replicate, drop, take, if◌then◌else◌, bit_or}
use Rattle.bcl_words.specs.Words.{is_words}

-- how many words both parts have: their sum, and where one of them is 2^32 or more a number that is too
abbrev pub pair_count : ℕ → ℕ → ℕ
pair_count a b = bit_or (bit_or (a % 2 ^ 32 + b % 2 ^ 32) (a / 2 ^ 32 * 2 ^ 32)) (b / 2 ^ 32 * 2 ^ 32)

-- eight words: `count` of w from a place on, and zeros
abbrev pub part_of : ℕ → ℕ → List ℕ → List ℕ
part_of place count w = take count (drop place w) ++ replicate (8 - count) 0

-- the first a of v, then the first b of w, and zeros
abbrev pub joined : ℕ → ℕ → List ℕ → List ℕ → List ℕ
joined a b v w = take a v ++ (take b w ++ replicate (8 - (a + b)) 0)

-- the words of a pair whose parts have a and b words, v and w; none where one of them is no value
abbrev pub pair_words : ℕ → ℕ → (List ℕ → Bool) → (List ℕ → Bool) → List ℕ → List ℕ → List ℕ
pair_words a b p q v w = if p v && q w then joined a b v w else []

-- whether eight words are those of a pair
abbrev pub pair_passes : ℕ → ℕ → (List ℕ → Bool) → (List ℕ → Bool) → List ℕ → Bool
pair_passes a b p q w = is_words (a + b) w && (p (part_of 0 a w) && q (part_of a b w))
