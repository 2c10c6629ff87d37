-- Walks over the lines of nodes, which are named by their places, from 0.
-- Behind a line lies the first line of the next key, and a walk goes on until that would repeat a line.
use Rattle.std.specs.Prelude.{◌≡◌, ℕ, zero, suc, ◌+◌, ◌<◌, ◌==◌, ◌&&◌, nat_lt, not, Bool, true, IsTrue, List, [], ◌∷◌, ◌++◌, Option, Some, None, length, map, filter, drop, take, slice_get, slice_index, if◌then◌else◌}
use Rattle.std.specs.List.{list_any, range_with_len}
use Rattle.std.specs.Option.{option_map_or}
use Rattle.kmer_text.specs.Nodes.{line_at}
use Rattle.kmer_paths.specs.Keys.{first_place}

abbrev pub backward : ℕ → List ℕ → ℕ
backward k line = slice_index line (k + 1)

abbrev pub forward : ℕ → List ℕ → ℕ
forward k line = slice_index line (k + 2)

-- the last k - 1 letters of a line's key, and then its forward letter
abbrev pub next_key : ℕ → List ℕ → List ℕ
next_key k line = drop 1 (take k line) ++ forward k line ∷ []

-- the place behind a place. There is none where the forward extension is F, or where no line has the next key
abbrev pub next_place : ℕ → List (List ℕ) → ℕ → Option ℕ
next_place k lines place =
    if forward k (line_at lines place) == 70 then None else first_place k lines (next_key k (line_at lines place))

-- a place, the next one, and so on: n places, or fewer where the last has no next
abbrev pub path : (ℕ → Option ℕ) → ℕ → ℕ → List ℕ
path next zero place = []
path next (suc n) place = place ∷ option_map_or (path next n) (next place) []

abbrev pub repeats_nothing : List ℕ → Bool
repeats_nothing [] = true
repeats_nothing (x ∷ xs) = not (list_any (λ y. x == y) xs) && repeats_nothing xs

-- the first of the longest
abbrev pub longest : List (List ℕ) → List ℕ
longest [] = []
longest (xs ∷ lists) = if nat_lt (length xs) (length (longest lists)) then longest lists else xs

-- the longest path of at most n places that repeats nothing
unfoldable pub longest_path : (ℕ → Option ℕ) → ℕ → ℕ → List ℕ
longest_path next n place = longest (filter repeats_nothing (map (λ m. path next m place) (range_with_len 0 (n + 1))))

-- the longest path over the lines that repeats none
abbrev pub walk : ℕ → List (List ℕ) → ℕ → List ℕ
walk k lines place = longest_path (next_place k lines) (length lines) place

-- the places begin with this one, each later one lies behind the one before it, and none stands twice
pub record GoesFrom (k : ℕ) (lines : List (List ℕ)) (place : ℕ) (places : List ℕ) : Type 0 where
  pub begins : slice_get places 0 ≡ Some place
  pub goes_on : (i : ℕ) → i + 1 < length places → next_place k lines (slice_index places i) ≡ Some (slice_index places (i + 1))
  pub once : IsTrue (repeats_nothing places)
