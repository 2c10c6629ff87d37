-- Bytes as words.
-- Each eight bytes are a word, the number that has them as its bytes, the lowest first.
use Rattle.std.specs.Prelude.{ℕ, zero, suc, ◌-◌, ◌*◌, List, [], ◌∷◌, ◌++◌, Bool, ◌&&◌, ◌==◌, nat_lt, length, replicate, drop, take, if◌then◌else◌}
use Rattle.std.specs.List.{list_all, flat_map}
use Rattle.std.specs.Int.{from_le_bytes, to_le_bytes, w64}

-- whether these are n bytes
abbrev pub are_bytes : ℕ → List ℕ → Bool
are_bytes n bytes = (length bytes == n) && list_all (λ byte. nat_lt byte 256) bytes

-- the first n words of the bytes
unfoldable pub byte_words : ℕ → List ℕ → List ℕ
byte_words zero bytes = []
byte_words (suc n) bytes = from_le_bytes w64 (take 8 bytes) ∷ byte_words n (drop 8 bytes)

-- the words of 8 * n bytes, and zeros; none of what is no such bytes
abbrev pub padded_words : ℕ → List ℕ → List ℕ
padded_words n bytes = if are_bytes (8 * n) bytes then byte_words n bytes ++ replicate (8 - n) 0 else []

-- the bytes of the words
abbrev pub bytes_of : List ℕ → List ℕ
bytes_of words = flat_map (to_le_bytes w64) words
