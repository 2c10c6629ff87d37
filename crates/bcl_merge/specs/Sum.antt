-- The sum as a law on words.
-- Numbers below 2^64 are one word, and so is their sum modulo 2^64.
use Rattle.std.specs.Prelude.{ℕ, ◌+◌, ◌%◌, ◌^◌, List, slice_index}
use Rattle.bcl_words.specs.Numbers.{one_word}

abbrev pub sum_of : List ℕ → List ℕ → List ℕ
sum_of a b = one_word ((slice_index a 0 + slice_index b 0) % 2 ^ 64)
