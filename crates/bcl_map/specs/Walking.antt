-- What the steps of a walk along the path of a key tell, whichever the call is.
-- A walk gets control words, and compares the words of keys of the same home. It ends at a free place, at one that has the key, or behind the last.
use Rattle.std.specs.Prelude.{◌≡◌, ◌≢◌, ℕ, zero, suc, ◌<◌, ◌≤◌, List, [], ◌∷◌, length, slice_index, Bool, true, false, None}
use Rattle.bcl_event.specs.History.{state_by}
use Rattle.bcl_event.specs.declared.map.MapCall.{MapCall}
use Rattle.bcl_event.specs.declared.map.MapReply.{MapReply}
use Rattle.bcl_event.specs.Map.{Pairs, value_at}
use Rattle.bcl_map.specs.declared.shape.Shape.{Shape}
use Rattle.bcl_map.specs.Map.{places, Words, home, path, next, tag}
use Rattle.bcl_map.specs.Notes.{Claim, passed, keyed, alike, settled, certain, lacking, lent, grips, many, met, Note, Knows}
use Rattle.bcl_map.specs.Steps.{Goes_on, Answers}
use Rattle.bcl_map.specs.Finds.{reading}

-- a call that walks: what it is answered where each place has another key, and whether it is answered so at a free place already
pub record Walker : Type 0 where
  pub call : MapCall Words Words
  pub past : MapReply Words
  pub stops : Bool

-- so it is answered where its walk ends without the key, and the state stays
abbrev pub IsAnswered : Walker → Words → Type 0
IsAnswered c k = (op : Words → Words → Words) (L : Shape) (t : Pairs) → value_at k t ≡ None → (c.stops ≡ false → length t ≡ places L) → next op L t c.call ≡ (c.past, t)

-- ---- the claims of a walk

-- so many places are passed
abbrev pub walked : Words → ℕ → List Claim
walked k zero = []
walked k (suc d) = passed k (suc d) ∷ []

-- so many places are passed; where a free place was met, the state has so many keys at least, and not this one
abbrev pub heading : Bool → Words → ℕ → ℕ → List Claim
heading false k d b = walked k d
heading true k d b = passed k d ∷ many b ∷ lacking k ∷ []

-- at the place with this number so many words of its key were found to be those of this one
abbrev pub matching : Bool → Words → ℕ → ℕ → ℕ → List Claim
matching strayed k d g b = alike k d g ∷ heading strayed k d b

-- that place was free
abbrev pub facing : Shape → Words → ℕ → ℕ → List Claim
facing L k d b = passed k d ∷ met (path L k d) b ∷ lacking k ∷ []

-- whether a free place was met
abbrev pub strays : List Claim → Bool
strays [] = false
strays (passed k d ∷ as') = strays as'
strays (keyed k d ∷ as') = strays as'
strays (alike k d g ∷ as') = strays as'
strays (settled k d ∷ as') = strays as'
strays (certain k v ∷ as') = strays as'
strays (lacking k ∷ as') = true
strays (lent i k v ∷ as') = strays as'
strays (grips i l k old v n ∷ as') = strays as'
strays (many b ∷ as') = strays as'
strays (met i b ∷ as') = strays as'

-- how many keys the state has at least
abbrev pub least : List Claim → ℕ
least [] = 0
least (passed k d ∷ as') = least as'
least (keyed k d ∷ as') = least as'
least (alike k d g ∷ as') = least as'
least (settled k d ∷ as') = least as'
least (certain k v ∷ as') = least as'
least (lacking k ∷ as') = least as'
least (lent i k v ∷ as') = least as'
least (grips i l k old v n ∷ as') = least as'
least (many b ∷ as') = b
least (met i b ∷ as') = b

-- ---- what the steps tell

module _ (kw vw : ℕ) (op : Words → Words → Words) (L : Shape) where
  -- the place is in use by another key: the walk goes on, or ends behind the last
  pub record GoesPast (c : Walker) (strayed : Bool) (k : Words) (d : ℕ) (x : Note) (t : Pairs) (did : List (MapCall Words Words)) (y : Note) : Type 0 where
    pub on : suc d < places L → Goes_on x (heading strayed k (suc d) (length t)) did y
    pub ends : places L ≤ suc d → Answers kw vw op L c.call c.past x [] t did y

  -- what a get of a control word tells of a place in use
  pub record Meets (c : Walker) (strayed : Bool) (k : Words) (d : ℕ) (x : Note) (n : ℕ) (t : Pairs) (did : List (MapCall Words Words)) (y : Note) : Type 0 where
    pub same_home : tag n ≡ home L k → Goes_on x (matching strayed k d 0 (length t)) did y
    pub other_home : tag n ≢ home L k → GoesPast c strayed k d x t did y

  -- what it tells of a free place: the walk ends, or stands before it
  pub record SeesFree (c : Walker) (k : Words) (d : ℕ) (x : Note) (t : Pairs) (did : List (MapCall Words Words)) (y : Note) : Type 0 where
    pub ends : c.stops ≡ true → Answers kw vw op L c.call c.past x [] t did y
    pub on : c.stops ≡ false → Goes_on x (facing L k d (length t)) did y

  -- a get of a control word: the place isn't free where the walk knows more
  pub record SeesControl (c : Walker) (strayed : Bool) (k : Words) (d : ℕ) (x : Note) (n : ℕ) (t : Pairs) (did : List (MapCall Words Words)) (y : Note) : Type 0 where
    pub still : state_by (next op L) t did ≡ t
    pub many : least x.claims ≤ length t
    pub some : Knows k (suc d) x.claims → n ≢ 0
    pub free : n ≡ 0 → SeesFree c k d x t did y
    pub used : n ≢ 0 → Meets c strayed k d x n t did y

  -- a get of the word g of a key
  pub record SeesKey (c : Walker) (strayed : Bool) (k : Words) (d g : ℕ) (x : Note) (n : ℕ) (t : Pairs) (did : List (MapCall Words Words)) (y : Note) : Type 0 where
    pub still : state_by (next op L) t did ≡ t
    pub many : least x.claims ≤ length t
    pub more : n ≡ slice_index k g → suc g < kw → Goes_on x (matching strayed k d (suc g) (length t)) did y
    pub all : n ≡ slice_index k g → suc g ≡ kw → (v : Words) × Goes_on x (reading k d v) did y × (strayed ≡ false)
    pub other : n ≢ slice_index k g → GoesPast c strayed k d x t did y
