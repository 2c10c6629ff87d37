-- The windows of lines: their runs of k letters.
-- A line of L letters has L - k + 1 of them, and none where L is below k.
use Rattle.std.specs.Prelude.{ℕ, ◌+◌, ◌-◌, List, length, map, slice_range, count_by}
use Rattle.std.specs.List.{flat_map, range_with_len}
use Rattle.std.specs.Str.{bytes_eq}

-- the k letters at each place of a line that has so many from there on
abbrev pub windows : ℕ → List ℕ → List (List ℕ)
windows k line = map (λ place. slice_range line place (place + k)) (range_with_len 0 (length line + 1 - k))

-- the windows of the lines, one line after another: one for each pair of a line and a place
abbrev pub all_windows : ℕ → List (List ℕ) → List (List ℕ)
all_windows k lines = flat_map (windows k) lines

-- at how many of these pairs the word stands
abbrev pub occurs : ℕ → List (List ℕ) → List ℕ → ℕ
occurs k lines word = count_by (bytes_eq word) (all_windows k lines)

-- how many pairs there are
abbrev pub total : ℕ → List (List ℕ) → ℕ
total k lines = length (all_windows k lines)
