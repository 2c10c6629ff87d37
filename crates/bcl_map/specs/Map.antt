-- The map under phases: its sequential object, what its promises permit, and where its words stand.
-- A place has 1 + kw + vw words: its control word, and then its content, which is the words of a key and of its value.
use Rattle.std.specs.Prelude.{◌≡◌, ℕ, ◌+◌, ◌*◌, ◌/◌, ◌%◌, ◌<◌, ◌≤◌, ◌^◌, ◌==◌, ◌&&◌, Bool, nat_le, List, [], ◌++◌, slice_index, take, Some}
use Rattle.bcl_words.specs.Words.{is_fit}
use Rattle.bcl_segment.specs.declared.layout.Layout.{Layout}
use Rattle.bcl_segment.specs.Places as segment
use Rattle.bcl_bucket.specs.Paths.{start_of}
use Rattle.bcl_map.specs.declared.shape.Shape.{Shape}
use Rattle.bcl_event.specs.declared.map.MapCall.{MapCall}
use Rattle.bcl_event.specs.declared.map.MapReply.{MapReply}
use Rattle.bcl_event.specs.Map.{Pairs, value_at, map_step}
use Rattle.bcl_event.specs.Promises.{Permits, map_permits}

-- keys and values are their words
abbrev pub Words : Type 0
Words = List ℕ

-- the codes of the promises
abbrev pub finding : ℕ
finding = 1

abbrev pub owning : ℕ
owning = 2

abbrev pub adding : ℕ
adding = 3

abbrev pub filling : ℕ
filling = 4

-- how many buckets there are
abbrev pub places : Shape → ℕ
places L = L.ranks * L.per_rank

abbrev pub ranks : Shape → ℕ
ranks L = L.ranks

abbrev pub first_pairs : Shape → Pairs
first_pairs L = []

-- where a path begins, the rank that has that place, and the place so far along the path
abbrev pub begins_at : Shape → Words → ℕ
begins_at L k = start_of L.width k (places L)

abbrev pub home : Shape → Words → ℕ
home L k = begins_at L k / L.per_rank

abbrev pub path : Shape → Words → ℕ → ℕ
path L k d = (begins_at L k + d) % places L

abbrev pub next : (Words → Words → Words) → Shape → Pairs → MapCall Words Words → MapReply Words × Pairs
next op L t c = map_step (places L) op t c

abbrev pub permits : Shape → ℕ → ℕ → MapCall Words Words → Type 0
permits L p r c = Permits (map_permits (home L)) p r c

-- the state has a place for the key: one with a value, as each place has
abbrev pub HasPlace : Words → Pairs → Type 0
HasPlace k t = (v : Words) × (value_at k t ≡ Some v)

-- the home that a control word names
abbrev pub tag : ℕ → ℕ
tag n = n / 256 % 256

-- what is known of a layout
pub record Lawful (L : Shape) : Type 0 where
  pub some_place : 0 < places L
  pub few_ranks : L.ranks ≤ 64

-- of the eight words of a key and of a value those of their own stand in a place
abbrev pub content : ℕ → ℕ → Words → Words → List ℕ
content kw vw k v = take kw k ++ take vw v

module _ (kw vw : ℕ) where
  abbrev pub size : ℕ
  size = 1 + (kw + vw)

  -- the word b of the place i
  abbrev pub word : List ℕ → ℕ → ℕ → ℕ
  word ws i b = slice_index ws (size * i + b)

  -- the first n words of the content are these
  abbrev pub Lies : List ℕ → ℕ → Words → ℕ → Type 0
  Lies ws i xs n = (b : ℕ) → b < n → word ws i (1 + b) ≡ slice_index xs b

-- the segments of a map's shape, in words
abbrev pub laid_out : ℕ → ℕ → Shape → Layout
laid_out kw vw L = record { ranks = L.ranks; per_rank = L.per_rank * size kw vw }

-- keys of the shape's width and values fit, and there are few ranks
abbrev pub is_sound : ℕ → ℕ → Shape → Bool
is_sound kw vw L = is_fit kw && (is_fit vw && ((L.width == kw) && nat_le L.ranks 64))

-- the segments have no head words, and each bucket of a rank has its words side by side
pub record IsShaped (kw vw heads : ℕ) (layout : Layout) (L : Shape) : Type 0 where
  pub none : heads ≡ 0
  pub of_ranks : layout.ranks ≡ L.ranks
  pub of_buckets : layout.per_rank ≡ L.per_rank * size kw vw
  pub wide : L.width ≡ kw
  pub some_ranks : 1 ≤ L.ranks
  pub few_ranks : L.ranks ≤ 64
  pub some : 1 ≤ L.per_rank
  pub few : segment.places layout ≤ 2 ^ 27
