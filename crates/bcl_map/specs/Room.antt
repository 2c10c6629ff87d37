-- A map with room for so many pairs: it has at least twice as many buckets.
use Rattle.std.specs.Prelude.{ℕ, ◌+◌, ◌-◌, ◌*◌, ◌/◌, max}
use Rattle.bcl_map.specs.declared.shape.Shape.{Shape}

-- how many buckets each rank has
abbrev pub buckets : ℕ → ℕ → ℕ
buckets ranks pairs = max 1 ((2 * pairs + (ranks - 1)) / ranks)

-- the map over so many ranks, with keys of so many words
abbrev pub shape_for : ℕ → ℕ → ℕ → Shape
shape_for width ranks pairs = record { ranks = ranks; per_rank = buckets ranks pairs; width = width }
