-- The lines of a text.
-- It is cut at each newline. A line loses one carriage return at its end.
use Rattle.std.specs.Prelude.{ℕ, ◌==◌, Bool, List, [], ◌∷◌, length, map, if◌then◌else◌}
use Rattle.std.specs.List.{slice_split}
use Rattle.std.specs.Str.Lines.{strip_carriage_return}

abbrev pub is_newline : ℕ → Bool
is_newline byte = byte == 10

-- all pieces but a last one that is empty
abbrev pub drop_empty_last : List (List ℕ) → List (List ℕ)
drop_empty_last [] = []
drop_empty_last (piece ∷ []) = if length piece == 0 then [] else piece ∷ []
drop_empty_last (piece ∷ next ∷ pieces) = piece ∷ drop_empty_last (next ∷ pieces)

abbrev pub lines : List ℕ → List (List ℕ)
lines text = map strip_carriage_return (drop_empty_last (slice_split is_newline text))
