-- The least words as a law on words.
-- Lists are compared number by number, and the first that differs decides.
use Rattle.std.specs.Prelude.{ℕ, List, Bool, if◌then◌else◌}
use Rattle.std.specs.Ordering.{nat_cmp, is_gt}
use Rattle.std.specs.Cmp.Lexicographic.{slice_cmp}

-- whether the first of two lists comes after the second
abbrev pub comes_after : List ℕ → List ℕ → Bool
comes_after a b = is_gt (slice_cmp nat_cmp a b)

-- the one that comes first
abbrev pub least_of : List ℕ → List ℕ → List ℕ
least_of a b = if comes_after a b then b else a
