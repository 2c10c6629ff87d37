-- The four letters, and lines that have other bytes.
use Rattle.std.specs.Prelude.{ℕ, ◌+◌, ◌==◌, ◌||◌, not, Bool, List, Option, position}
use Rattle.std.specs.List.{list_all}
use Rattle.std.specs.Option.{option_map}
use Rattle.kmer_text.specs.declared.fault.InputFault.{InputFault}
use Rattle.kmer_text.specs.declared.fault.Kind.TheVariants as kind

-- A, C, G or T
abbrev pub is_letter : ℕ → Bool
is_letter byte = byte == 65 || byte == 67 || byte == 71 || byte == 84

abbrev pub are_letters : List ℕ → Bool
are_letters line = list_all is_letter line

-- line number i + 1 has a byte that is no letter
abbrev pub bad_letter_at : ℕ → InputFault
bad_letter_at i = record { line = i + 1; kind = kind.Letter }

-- the first line that has such a byte
abbrev pub bad_letter : List (List ℕ) → Option InputFault
bad_letter lines = option_map bad_letter_at (position (λ line. not (are_letters line)) lines)
