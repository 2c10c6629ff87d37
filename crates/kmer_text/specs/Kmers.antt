-- Words of letters as numbers.
-- The letters A, C, G and T are the digits 0 to 3 to the base 4, and the first letter of a word is its highest digit.
use Rattle.std.specs.Prelude.{ℕ, zero, suc, ◌+◌, ◌*◌, ◌/◌, ◌%◌, ◌^◌, ◌≤◌, ◌==◌, List, [], ◌∷◌, length, map, codes, if◌then◌else◌}
use Rattle.std.specs.List.{flat_map}

-- the lengths of a word that fits a k-mer
pub record IsKmerLength (k : ℕ) : Type 0 where
  pub least : 1 ≤ k
  pub most : k ≤ 31

abbrev pub digit_of : ℕ → ℕ
digit_of byte = if byte == 65 then 0 else if byte == 67 then 1 else if byte == 71 then 2 else 3

abbrev pub letter_of : ℕ → ℕ
letter_of digit = if digit == 0 then 65 else if digit == 1 then 67 else if digit == 2 then 71 else 84

-- the number of a word
abbrev pub number_of : List ℕ → ℕ
number_of [] = 0
number_of (letter ∷ word) = digit_of letter * 4 ^ length word + number_of word

-- the word of k letters that has the number n
abbrev pub word_of : ℕ → ℕ → List ℕ
word_of zero n = []
word_of (suc k) n = letter_of (n / 4 ^ k % 4) ∷ word_of k n

-- all words of k letters, in byte order
abbrev pub all_words : ℕ → List (List ℕ)
all_words zero = [] ∷ []
all_words (suc k) = flat_map (λ letter. map (λ word. letter ∷ word) (all_words k)) (codes "ACGT")
