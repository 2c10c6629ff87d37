-- What the steps of an insertion and a merge tell, beside those of their walk.
-- At a FREE place they try one exchange; where that is lost, another rank has taken the place, and the walk goes on there.
use Rattle.std.specs.Prelude.{◌≡◌, ◌≢◌, ℕ, suc, ◌+◌, ◌<◌, ◌≤◌, ◌⊎◌, List, [], ◌∷◌, length, true, false}
use Rattle.bcl_bucket.specs.Controls.{word_of}
use Rattle.bcl_bucket.specs.declared.control.State.TheVariants.{Ready}
use Rattle.bcl_event.specs.declared.map.MapCall.{MapCall}
use Rattle.bcl_event.specs.declared.map.MapCall.TheVariants.{Insert, Merge}
use Rattle.bcl_event.specs.declared.map.MapReply.TheVariants.{New, Replaced, Full}
use Rattle.bcl_event.specs.Map.{Pairs}
use Rattle.bcl_map.specs.declared.shape.Shape.{Shape}
use Rattle.bcl_map.specs.declared.note.Lock.TheVariants.{Shown as shown}
use Rattle.bcl_map.specs.declared.note.Before.{Before}
use Rattle.bcl_map.specs.declared.note.Before.TheVariants.{Nothing, Value as before}
use Rattle.bcl_map.specs.Map.{Words, home, path}
use Rattle.bcl_map.specs.Notes.{Claim, passed, keyed, alike, settled, certain, lacking, lent, grips, many, met, Note}
use Rattle.bcl_map.specs.Steps.{Goes_on, Answers}
use Rattle.bcl_map.specs.Walking.{Walker, heading, least}

-- ---- the claims of an insertion

-- this rank writes the place with this number: so many words of its content are put
abbrev pub writing : Shape → Words → ℕ → Before → Words → ℕ → List Claim
writing L k d old v n = grips (path L k d) shown k old v n ∷ []

-- the value before, of a place that is written
abbrev pub old_of : List Claim → Before
old_of [] = Nothing
old_of (passed k d ∷ as') = old_of as'
old_of (keyed k d ∷ as') = old_of as'
old_of (alike k d g ∷ as') = old_of as'
old_of (settled k d ∷ as') = old_of as'
old_of (certain k v ∷ as') = old_of as'
old_of (lacking k ∷ as') = old_of as'
old_of (lent i k v ∷ as') = old_of as'
old_of (grips i l k old v n ∷ as') = old
old_of (many b ∷ as') = old_of as'
old_of (met i b ∷ as') = old_of as'

-- ---- what the steps tell

-- a call that stores a value for the key
abbrev pub Stores : Words → Words → MapCall Words Words → Type 0
Stores k v c = (c ≡ Insert k v) ⊎ (c ≡ Merge k v)

-- it is full where each place has another key, and goes on at a free place
pub record IsStoring (k v : Words) (c : Walker) : Type 0 where
  pub stores : Stores k v c.call
  pub full : c.past ≡ Full
  pub on : c.stops ≡ false

module _ (kw vw : ℕ) (op : Words → Words → Words) (L : Shape) where
  -- a READY control word without readers
  abbrev pub ready : Words → ℕ
  ready k = word_of (record { state = Ready; home = home L k; readers = 0 })

  -- the exchange of FREE to READY
  pub record Takes (c : MapCall Words Words) (k v : Words) (d : ℕ) (x : Note) (n : ℕ) (t : Pairs) (did : List (MapCall Words Words)) (y : Note) : Type 0 where
    pub many : least x.claims ≤ length t
    pub won : n ≡ 0 → Answers kw vw op L c New x (writing L k d Nothing v 0) t did y
    pub lost : n ≢ 0 → Goes_on x (heading true k (suc d) (suc (least x.claims))) did y

  -- a put of the word n of the content, in a call in flight; the last one rests
  pub record PutsWord (k v : Words) (d : ℕ) (old : Before) (n : ℕ) (x : Note) (t : Pairs) (did : List (MapCall Words Words)) (y : Note) : Type 0 where
    pub more : suc n < kw + vw → Goes_on x (writing L k d old v (suc n)) did y
    pub all : suc n ≡ kw + vw → Goes_on x [] did y

  -- the first put of a word of the value of a key that is there
  pub record Replaces (c : MapCall Words Words) (k v : Words) (d : ℕ) (old : Words) (x : Note) (t : Pairs) (did : List (MapCall Words Words)) (y : Note) : Type 0 where
    pub more : 1 < vw → Answers kw vw op L c Replaced x (writing L k d (before old) v (kw + 1)) t did y
    pub all : 1 ≡ vw → Answers kw vw op L c Replaced x [] t did y
