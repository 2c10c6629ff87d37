-- The number of a value: its first word.
-- `Add`, `FetchAdd` and `FetchMin` work on it, and leave a value that has this one word.
use Rattle.std.specs.Prelude.{ℕ, ◌+◌, ◌%◌, ◌^◌, List, slice_index}
use Rattle.bcl_words.specs.Numbers.{one_word}

abbrev pub number : List ℕ → ℕ
number words = slice_index words 0

-- the word of the sum modulo 2^64
abbrev pub added : ℕ → List ℕ → List ℕ
added n words = one_word ((number words + n) % 2 ^ 64)
