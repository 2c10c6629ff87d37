-- The hash of a list of words.
-- Each word is mixed in, and at the end the high half into the low one.
use Rattle.std.specs.Prelude.{ℕ, ◌*◌, ◌/◌, ◌%◌, ◌^◌, List, fold, bit_xor}
use Rattle.std.specs.Int.{rotate_left, w64}

-- the hash so far, and one word more
abbrev pub hash_step : ℕ → ℕ → ℕ
hash_step h word = rotate_left w64 (bit_xor h word) 29 * 0x9E37_79B9_7F4A_7C15 % 2 ^ 64

-- the high half over the low half
abbrev pub hash_end : ℕ → ℕ
hash_end h = bit_xor h (h / 2 ^ 32)

abbrev pub hash_of : List ℕ → ℕ
hash_of words = hash_end (fold hash_step 0 words)
