-- What the steps of a find tell, behind its walk.
-- At a place that has the key it gets the words of the value.
use Rattle.std.specs.Prelude.{◌≡◌, ℕ, suc, ◌<◌, ◌⊎◌, List, [], ◌∷◌, slice_index, Some, Bool}
use Rattle.bcl_event.specs.History.{state_by}
use Rattle.bcl_event.specs.declared.map.MapCall.{MapCall}
use Rattle.bcl_event.specs.declared.map.MapCall.TheVariants.{Find}
use Rattle.bcl_event.specs.declared.map.MapReply.TheVariants.{Value}
use Rattle.bcl_event.specs.Map.{Pairs, value_at}
use Rattle.bcl_map.specs.declared.shape.Shape.{Shape}
use Rattle.bcl_map.specs.Map.{Words, finding, owning, home, next}
use Rattle.bcl_map.specs.Notes.{Claim, passed, keyed, alike, settled, certain, lacking, lent, grips, many, met, Note}
use Rattle.bcl_map.specs.Fits.{AreTyped}
use Rattle.bcl_map.specs.Steps.{Goes_on, Answers}

-- no other rank changes the value of the key
abbrev pub MaySee : Shape → ℕ → ℕ → Words → Type 0
MaySee L p r k = (p ≡ finding) ⊎ ((p ≡ owning) × (home L k ≡ r))

-- the place has the key, whose value is this
abbrev pub reading : Words → ℕ → Words → List Claim
reading k d v = keyed k d ∷ certain k v ∷ []

-- the value that the claims are certain of
abbrev pub value_of : List Claim → Words
value_of [] = []
value_of (passed k d ∷ as') = value_of as'
value_of (keyed k d ∷ as') = value_of as'
value_of (alike k d g ∷ as') = value_of as'
value_of (settled k d ∷ as') = value_of as'
value_of (certain k v ∷ as') = v
value_of (lacking k ∷ as') = value_of as'
value_of (lent i k v ∷ as') = value_of as'
value_of (grips i l k old v n ∷ as') = value_of as'
value_of (many b ∷ as') = value_of as'
value_of (met i b ∷ as') = value_of as'

-- what a step tells, where each pair of the state is a key and a value of their types
abbrev pub Typed : (List ℕ → Bool) → (List ℕ → Bool) → (ℕ → Pairs → List (MapCall Words Words) → Note → Type 0) → ℕ → Pairs → List (MapCall Words Words) → Note → Type 0
Typed key value tells n t did y = tells n t did y × AreTyped key value t

module _ (kw vw : ℕ) (op : Words → Words → Words) (L : Shape) where
  -- a get of the word g of a value
  pub record FindsValue (k : Words) (d : ℕ) (v : Words) (g : ℕ) (x : Note) (n : ℕ) (t : Pairs) (did : List (MapCall Words Words)) (y : Note) : Type 0 where
    pub still : state_by (next op L) t did ≡ t
    pub there : value_at k t ≡ Some v
    pub word : n ≡ slice_index v g
    pub more : suc g < vw → Goes_on x (reading k d v) did y
    pub all : suc g ≡ vw → Answers kw vw op L (Find k) (Value v) x [] t did y
