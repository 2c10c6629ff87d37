-- Paths through places: from one on, each once, and after the last comes place 0.
use Rattle.std.specs.Prelude.{ℕ, ◌%◌, List, map, take}
use Rattle.std.specs.List.{range_with_len}
use Rattle.bcl_words.specs.Hash.{hash_of}

-- where the path of a key begins, by its own words
abbrev pub start_of : ℕ → List ℕ → ℕ → ℕ
start_of width words places = hash_of (take width words) % places

abbrev pub path : ℕ → ℕ → List ℕ
path start places = map (λ i. i % places) (range_with_len start places)
