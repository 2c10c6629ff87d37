-- The lines of a key.
-- Of several lines with one key the first is the key's node.
use Rattle.std.specs.Prelude.{ℕ, ◌+◌, ◌==◌, ◌&&◌, not, Bool, false, List, Option, length, position, take, slice_index, if◌then◌else◌}
use Rattle.std.specs.Option.{option_map_or}
use Rattle.std.specs.Str.{bytes_eq}
use Rattle.kmer_text.specs.Nodes.{code_of, line_at}

abbrev pub has_key : ℕ → List ℕ → List ℕ → Bool
has_key k word line = bytes_eq (take k line) word

-- the place of the first line with a key, if there is one
abbrev pub first_place : ℕ → List (List ℕ) → List ℕ → Option ℕ
first_place k lines word = position (has_key k word) lines

-- both lines have the same extensions
abbrev pub agree : ℕ → List ℕ → List ℕ → Bool
agree k one other =
    code_of (slice_index one (k + 1)) == code_of (slice_index other (k + 1)) && code_of (slice_index one (k + 2)) == code_of (slice_index other (k + 2))

-- the line isn't empty, and its extensions differ from those of the first line of its key
abbrev pub conflicts : ℕ → List (List ℕ) → List ℕ → Bool
conflicts k lines line = if length line == 0 then false else option_map_or (λ place. not (agree k line (line_at lines place))) (first_place k lines (take k line)) false

-- the place of the first line that does
abbrev pub first_conflict : ℕ → List (List ℕ) → Option ℕ
first_conflict k lines = position (conflicts k lines) lines
