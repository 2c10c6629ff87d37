-- Lines of nodes: a key of k letters, a tab, a backward and a forward extension.
-- An extension is a letter, or F where the node has no neighbour on that side.
use Rattle.std.specs.Prelude.{ℕ, ◌+◌, ◌==◌, ◌||◌, ◌&&◌, not, Bool, List, [], ◌∷◌, Option, None, length, take, slice_index, slice_index_or, if◌then◌else◌}
use Rattle.std.specs.Option.{option_map, option_or}
use Rattle.bcl_words.specs.Reasons.{when, first_of}
use Rattle.kmer_text.specs.declared.fault.InputFault.{InputFault}
use Rattle.kmer_text.specs.declared.fault.Kind.{Kind}
use Rattle.kmer_text.specs.declared.fault.Kind.TheVariants as kind
use Rattle.kmer_text.specs.Letters.{is_letter, are_letters}
use Rattle.kmer_text.specs.Kmers.{digit_of}

abbrev pub is_extension : ℕ → Bool
is_extension byte = is_letter byte || byte == 70

-- the code of an extension: the digit of a letter, and 4 for F
abbrev pub code_of : ℕ → ℕ
code_of byte = if byte == 70 then 4 else digit_of byte

abbrev pub are_extensions : ℕ → List ℕ → Bool
are_extensions k line = is_extension (slice_index line (k + 1)) && is_extension (slice_index line (k + 2))

-- the first fault of a line that isn't empty
abbrev pub node_fault : ℕ → List ℕ → Option Kind
node_fault k line = first_of (
    when (not (length line == k + 3)) kind.Length
    ∷ when (not (are_letters (take k line))) kind.Letter
    ∷ when (not (slice_index line k == 9)) kind.Tab
    ∷ when (not (are_extensions k line)) kind.Extension
    ∷ [])

-- an empty line has none
abbrev pub line_fault : ℕ → List ℕ → Option Kind
line_fault k line = if length line == 0 then None else node_fault k line

abbrev pub fault_at : ℕ → Kind → InputFault
fault_at n what = record { line = n; kind = what }

-- the first bad line from line number n on, and its first fault
abbrev pub bad_node_from : ℕ → ℕ → List (List ℕ) → Option InputFault
bad_node_from k n [] = None
bad_node_from k n (line ∷ lines) = option_or (option_map (fault_at n) (line_fault k line)) (bad_node_from k (n + 1) lines)

abbrev pub bad_node : ℕ → List (List ℕ) → Option InputFault
bad_node k lines = bad_node_from k 1 lines

-- the line at a place
abbrev pub line_at : List (List ℕ) → ℕ → List ℕ
line_at lines i = slice_index_or lines i []
