-- How a call goes on from one step to another along a path, and how it ends; said of a pass's view before and after.
use Rattle.std.specs.Prelude.{◌≡◌, ◌≢◌, ℕ, suc, ◌+◌, ◌*◌, ◌<◌, ◌≤◌, ◌⊎◌, [], ◌∷◌, ◌++◌, max, true, false}
use Rattle.bcl_event.specs.History.{event, of}
use Rattle.bcl_event.specs.declared.map.MapCall.{MapCall}
use Rattle.bcl_event.specs.declared.map.MapReply.{MapReply}
use Rattle.bcl_event.specs.declared.map.MapReply.TheVariants.{New, Replaced, Full}
use Rattle.bcl_phase.specs.Stands.{Still}
use Rattle.bcl_segment.specs.declared.layout.Layout.{Layout}
use Rattle.bcl_map.specs.declared.shape.Shape.{Shape}
use Rattle.bcl_map.specs.declared.inserted.Inserted.{Inserted}
use Rattle.bcl_map.specs.declared.inserted.Inserted.TheVariants.{New as was_new, Replaced as was_replaced, Full as was_full}
use Rattle.bcl_map.specs.declared.walk.Bucket.{Bucket}
use Rattle.bcl_map.specs.declared.reach.Reach.{Reach}
use Rattle.bcl_map.specs.declared.reach.Reach.TheVariants.{Free as reach_free, Here as reach_here, Past as reach_past}
use Rattle.bcl_map.specs.declared.place.Place.{Place}
use Rattle.bcl_map.specs.declared.place.Place.TheVariants.{New as place_new, Here as place_here, Full as place_full}
use Rattle.bcl_map.specs.Map.{places, path, Words, home, tag}
use Rattle.bcl_map.specs.Notes.{Knows}
use Rattle.bcl_map.specs.Calls.{MapView, Stands, IsBucketAt}
use Rattle.bcl_map.specs.Costs.{Events, keys, is_new}
use Rattle.bcl_map.specs.Finds.{reading, value_of}
use Rattle.bcl_map.specs.Walking.{Walker, heading, matching, facing, strays, least}

-- what a pass has seen of its own rank is all that this rank did
abbrev pub KnowsOwn : MapView → Type 0
KnowsOwn view = of view.rank view.seen ≡ view.mine

-- so many places are passed
abbrev pub IsHeading : Words → ℕ → MapView → Type 0
IsHeading key number view = view.note.claims ≡ heading (strays view.note.claims) key number (least view.note.claims)

-- so many are passed, or more
abbrev pub HasPassed : Words → ℕ → MapView → Type 0
HasPassed key number view = (more : ℕ) × (number ≤ more) × IsHeading key more view

-- the walk is at a place of the same home, of whose key so many words are those of this one
abbrev pub IsMatching : Words → ℕ → ℕ → MapView → Type 0
IsMatching key number g view = view.note.claims ≡ matching (strays view.note.claims) key number g (least view.note.claims)

module _ (op : Words → Words → Words) (shape : Shape) where
  -- so many keys there are at least, by what a pass has seen and by what it claims
  abbrev pub level : MapView → ℕ
  level view = max (keys op shape view.seen) (least view.note.claims)

  -- steps that make no call: with each exchange that was lost there is one key more
  pub record Comes (old new : MapView) : Type 0 where
    pub still : Still old new
    pub own : KnowsOwn new
    pub many : level old + new.atomics ≤ level new + old.atomics
    pub fresh : strays new.note.claims ≡ false → (strays old.note.claims ≡ false) × (new.atomics ≡ old.atomics)

  -- steps of which the last is the call's event: of the exchanges at most the one that took a bucket wasn't lost
  pub record Ends (call : MapCall Words Words) (reply : MapReply Words) (old new : MapView) : Type 0 where
    pub stands : Stands op shape old new (event old.rank call reply ∷ [])
    pub before : Events
    pub last : new.seen ≡ before ++ event old.rank call reply ∷ []
    pub many : level old + new.atomics ≤ keys op shape before + old.atomics + is_new reply
    pub own : (new.atomics ≡ old.atomics) ⊎ KnowsOwn old

  -- the walk is at a place that was free
  abbrev pub IsFacing : Words → ℕ → MapView → Type 0
  IsFacing key number view = (view.note.claims ≡ facing shape key number (least view.note.claims)) × (keys op shape view.seen ≤ least view.note.claims)

  -- the place with this number is free: the walk ends, or stands before it
  pub record IsFree (walker : Walker) (key : Words) (number : ℕ) (old new : MapView) : Type 0 where
    pub ends : walker.stops ≡ true → Ends walker.call walker.past old new × (new.note.claims ≡ [])
    pub on : walker.stops ≡ false → Comes old new × IsFacing key number new

  -- the place with this number has another key: the walk goes on, or ends behind the last
  pub record IsPast (walker : Walker) (key : Words) (number : ℕ) (old new : MapView) : Type 0 where
    pub on : suc number < places shape → Comes old new × IsHeading key (suc number) new
    pub ends : places shape ≤ suc number → Ends walker.call walker.past old new × (new.note.claims ≡ [])

  -- the place with this number is in use, by a key of this home or of another one, which its control word tells
  pub record Meets (walker : Walker) (key : Words) (number control : ℕ) (old new : MapView) : Type 0 where
    pub same_home : tag control ≡ home shape key → Comes old new × IsMatching key number 0 new
    pub other_home : tag control ≢ home shape key → IsPast walker key number old new

  -- a bucket of the path of the key
  pub record IsOnPath (words : ℕ) (layout : Layout) (key : Words) (bucket : Bucket) : Type 0 where
    pub at : IsBucketAt words layout bucket.at (path shape key bucket.number)
    pub within : bucket.number < places shape

  -- where a walk ended that began at the place with the number `from`: of a place that is known to be in use it isn't free there
  abbrev pub Reached : ℕ → Layout → Walker → Words → ℕ → MapView → MapView → Reach → Type 0
  Reached words layout walker key from old new (reach_free bucket) = IsOnPath words layout key bucket × IsFree walker key bucket.number old new × (Knows key (from + 1) old.note.claims → from < bucket.number)
  Reached words layout walker key from old new (reach_here bucket) = IsOnPath words layout key bucket × Comes old new × (new.note.claims ≡ reading key bucket.number (value_of new.note.claims))
  Reached words layout walker key from old new reach_past = Ends walker.call walker.past old new × (new.note.claims ≡ [])

  -- the place of a key in a call that stores a value for it
  abbrev pub IsPlaceOf : ℕ → Layout → MapCall Words Words → Words → MapView → MapView → Place → Type 0
  IsPlaceOf words layout call key old new place_new = Ends call New old new × (new.note.claims ≡ [])
  IsPlaceOf words layout call key old new (place_here bucket) = IsOnPath words layout key bucket × Comes old new × (new.note.claims ≡ reading key bucket.number (value_of new.note.claims))
  IsPlaceOf words layout call key old new place_full = Ends call Full old new × (new.note.claims ≡ [])

-- how many words a walk has got at most, from the begin of the path on, of so many places
abbrev pub most_gets : ℕ → ℕ → Reach → ℕ
most_gets kw places (reach_free bucket) = bucket.number * (1 + kw) + 1
most_gets kw places (reach_here bucket) = places * (1 + kw)
most_gets kw places reach_past = places * (1 + kw)

-- how many places it has looked at, from the begin of the path on
abbrev pub looked_at : ℕ → Reach → ℕ
looked_at places (reach_free bucket) = bucket.number + 1
looked_at places (reach_here bucket) = bucket.number + 1
looked_at places reach_past = places

-- how many places a call looked at that finds the place of its key; of a new one it isn't said
abbrev pub places_seen : ℕ → Place → ℕ
places_seen places place_new = 0
places_seen places (place_here bucket) = bucket.number + 1
places_seen places place_full = places

-- how many words it puts
abbrev pub words_placed : ℕ → ℕ → Place → ℕ
words_placed kw vw place_new = kw + vw
words_placed kw vw (place_here bucket) = 0
words_placed kw vw place_full = 0

-- the reply of an insertion and of a merge
abbrev pub inserted : Inserted → MapReply Words
inserted was_new = New
inserted was_replaced = Replaced
inserted was_full = Full

-- how many words it puts
abbrev pub words_put_by : ℕ → ℕ → Inserted → ℕ
words_put_by kw vw was_new = kw + vw
words_put_by kw vw was_replaced = vw
words_put_by kw vw was_full = 0

-- how many exchanges it makes at most, where other ranks inserted so many keys since its pass had last seen the history
abbrev pub most_atomics : ℕ → Inserted → ℕ
most_atomics taken was_new = taken + 1
most_atomics taken was_replaced = 0
most_atomics taken was_full = taken
