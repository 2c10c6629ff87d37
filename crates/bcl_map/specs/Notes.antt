-- What a pass knows of the map between two of its steps: a list of claims, each of a few kinds.
-- A claim is of places, of the state or of the words, and stands by itself: a new stage of a call is a new list.
use Rattle.std.specs.Prelude.{◌≡◌, ℕ, ◌+◌, ◌<◌, ◌≤◌, ◌⊎◌, ◌==◌, ◌&&◌, ◌||◌, List, [], ◌∷◌, length, slice_index, cond, Some, Bool, true, false}
use Rattle.std.specs.List.{list_all}
use mathlib.Core.Option.{some}
use Rattle.bcl_map.specs.declared.shape.Shape.{Shape}
use Rattle.bcl_event.specs.Map.{Pairs, value_at}
pub use Rattle.bcl_map.specs.declared.note.Claim.{Claim}
pub use Rattle.bcl_map.specs.declared.note.Claim.TheVariants.{Passed as passed, Keyed as keyed, Alike as alike, Settled as settled, Certain as certain, Lacking as lacking, Lent as lent, Grips as grips, Many as many, Met as met}
pub use Rattle.bcl_map.specs.declared.note.Note.{Note}
use Rattle.bcl_map.specs.Map.{Words, finding, owning, filling, HasPlace, home, path}
use Rattle.bcl_map.specs.Cells.{Cell, key_of, used, Bars, IsSettled, at, kept, busy}

abbrev pub rest : Note
rest = record { looked = []; claims = [] }

-- a claim of a pass with no call in flight
abbrev pub is_known : Claim → Bool
is_known (passed k d) = true
is_known (keyed k d) = true
is_known (alike k d g) = false
is_known (settled k d) = true
is_known (certain k v) = false
is_known (lacking k) = false
is_known (lent i k v) = false
is_known (grips i l k old v n) = false
is_known (many b) = false
is_known (met i b) = false

-- the note of a pass with no call in flight
abbrev pub Rests : Note → Type 0
Rests x = list_all is_known x.claims ≡ true

abbrev pub is_none : List Claim → Bool
is_none [] = true
is_none (a ∷ as') = false

-- no call is in flight, and only single tries know of one before
abbrev pub at_rest : ℕ → Note → Bool
at_rest promise x = list_all is_known x.claims && ((promise == filling) || is_none x.claims)

abbrev pub Has : Claim → List Claim → Type 0
Has a [] = ⊥
Has a (b ∷ bs) = (b ≡ a) ⊎ Has a bs

-- the claims know that so many places at the front of the path of a key are in use by other keys
abbrev pub Knows : Words → ℕ → List Claim → Type 0
Knows k d as' = (d ≡ 0) ⊎ ((e : ℕ) × (d ≤ e) × Has (passed k e) as')

-- how often the claims have a reader of the place
abbrev pub reads : ℕ → Claim → ℕ
reads i (passed k d) = 0
reads i (keyed k d) = 0
reads i (alike k d g) = 0
reads i (settled k d) = 0
reads i (certain k v) = 0
reads i (lacking k) = 0
reads i (lent j k v) = cond (j == i) 1 0
reads i (grips j l k old v n) = 0
reads i (many b) = 0
reads i (met j b) = 0

abbrev pub reads_all : ℕ → List Claim → ℕ
reads_all i [] = 0
reads_all i (a ∷ as') = reads i a + reads_all i as'

abbrev pub readers : ℕ → List Note → ℕ
readers i [] = 0
readers i (x ∷ xs) = reads_all i x.claims + readers i xs

-- under a promise, of the state and the places, for a rank
module _ (L : Shape) (p : ℕ) (t : Pairs) (cells : List Cell) (r : ℕ) where
  abbrev pub IsSure : Words → Type 0
  IsSure k = (p ≡ finding) ⊎ ((p ≡ owning) × (home L k ≡ r))

  abbrev pub Says : Claim → Type 0
  Says (passed k d) = (e : ℕ) → e < d → Bars k (at cells (path L k e))
  Says (keyed k d) = key_of (at cells (path L k d)) ≡ some k
  Says (alike k d g) = (o : Words) × (key_of (at cells (path L k d)) ≡ some o) × (home L o ≡ home L k) × ((b : ℕ) → b < g → slice_index o b ≡ slice_index k b)
  Says (settled k d) = IsSettled (at cells (path L k d))
  Says (certain k v) = IsSure k × (value_at k t ≡ Some v)
  Says (lacking k) = IsSure k × (HasPlace k t → ⊥)
  Says (lent i k v) = (p ≡ filling) × (at cells i ≡ kept k) × (value_at k t ≡ Some v)
  Says (grips i l k old v n) = at cells i ≡ busy l r k old v n
  Says (many b) = b ≤ length t
  Says (met i b) = used (at cells i) + b ≤ length t

  abbrev pub AllSay : List Claim → Type 0
  AllSay [] = Unit {0}
  AllSay (a ∷ as') = Says a × AllSay as'
