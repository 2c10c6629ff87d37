-- The contigs of lines of nodes, in byte order.
-- Each begins at a start, which is the first line of its key and has no neighbour behind it.
use Rattle.std.specs.Prelude.{ℕ, ◌-◌, ◌==◌, ◌&&◌, Bool, false, List, [], ◌∷◌, ◌++◌, length, map, filter, take, if◌then◌else◌}
use Rattle.std.specs.Cmp.Lexicographic.{slice_cmp}
use Rattle.std.specs.List.{flat_map, range_with_len}
use Rattle.std.specs.Option.{option_map_or}
use Rattle.std.specs.Ordering.{nat_cmp, is_lt}
use Rattle.kmer_text.specs.Nodes.{line_at}
use Rattle.kmer_paths.specs.Keys.{first_place}
use Rattle.kmer_paths.specs.Walks.{backward, forward, walk}

-- the line is the first of its key, and its backward extension is F. An empty line has none
abbrev pub is_start : ℕ → List (List ℕ) → ℕ → Bool
is_start k lines place =
    backward k (line_at lines place) == 70 && option_map_or (λ first. first == place) (first_place k lines (take k (line_at lines place))) false

abbrev pub starts : ℕ → List (List ℕ) → List ℕ
starts k lines = filter (is_start k lines) (range_with_len 0 (length lines))

-- the key of a start, and then the forward letter of each line of its walk but the last
abbrev pub contig : ℕ → List (List ℕ) → ℕ → List ℕ
contig k lines start =
    take k (line_at lines start) ++ map (λ place. forward k (line_at lines place)) (take (length (walk k lines start) - 1) (walk k lines start))

-- a text among texts in byte order
abbrev pub insert_text : List ℕ → List (List ℕ) → List (List ℕ)
insert_text text [] = text ∷ []
insert_text text (first ∷ texts) = if is_lt (slice_cmp nat_cmp first text) then first ∷ insert_text text texts else text ∷ first ∷ texts

abbrev pub in_byte_order : List (List ℕ) → List (List ℕ)
in_byte_order [] = []
in_byte_order (text ∷ texts) = insert_text text (in_byte_order texts)

unfoldable pub contigs : ℕ → List (List ℕ) → List (List ℕ)
contigs k lines = in_byte_order (map (contig k lines) (starts k lines))

-- a line for each text
abbrev pub text_of : List (List ℕ) → List ℕ
text_of texts = flat_map (λ text. text ++ 10 ∷ []) texts

abbrev pub contig_text : ℕ → List (List ℕ) → List ℕ
contig_text k lines = text_of (contigs k lines)
