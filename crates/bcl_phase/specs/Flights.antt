-- Where the words of an object stand among those of the segments.
-- The words of an object are got and put in their order, so what was got or put of it is a number.
use Rattle.std.specs.Prelude.{◌≡◌, ℕ, ◌+◌, ◌<◌, List, slice_index}

-- the first `count` words of the object stand side by side, the first of them at the place `first`
abbrev pub Lies : List ℕ → ℕ → List ℕ → ℕ → Type 0
Lies words first object count = (j : ℕ) → j < count → slice_index words (first + j) ≡ slice_index object j
