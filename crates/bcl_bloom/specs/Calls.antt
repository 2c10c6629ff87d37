-- What the calls of a filter say, of a pass before and after.
use Rattle.std.specs.Prelude.{◌≡◌, ℕ, List, [], ◌∷◌, ◌++◌, take}
use Rattle.std.specs.List.{list_all}
use Rattle.bcl_words.specs.Hash.{hash_of}
use Rattle.bcl_segment.specs.declared.layout.Layout.{Layout}
use Rattle.bcl_event.specs.declared.event.Event.{Event}
use Rattle.bcl_event.specs.declared.filter.FilterCall.{FilterCall}
use Rattle.bcl_event.specs.declared.filter.FilterCall.TheVariants.{Insert}
use Rattle.bcl_event.specs.declared.filter.FilterReply.{FilterReply}
use Rattle.bcl_event.specs.Filter.{four_bits, presence}
use Rattle.bcl_event.specs.SeqFilter.{has_bit}
use Rattle.bcl_phase.specs.declared.view.View.{View}
use Rattle.bcl_phase.specs.Stands as phase
use Rattle.bcl_bloom.specs.Bloom.{ranks, start, next, permits}

-- what a pass knows of a filter
abbrev pub FilterView : Type 0
FilterView = View (FilterCall (List ℕ)) FilterReply (Unit {0}) Layout

-- some rank has inserted the key with these words
pub record WasInserted (key : List ℕ) (seen : List (Event (FilterCall (List ℕ)) FilterReply)) : Type 0 where
  pub before : List (Event (FilterCall (List ℕ)) FilterReply)
  pub insert : Event (FilterCall (List ℕ)) FilterReply
  pub after : List (Event (FilterCall (List ℕ)) FilterReply)
  pub cut : seen ≡ before ++ insert ∷ after
  pub call : insert.call ≡ Insert key

module _ (width : ℕ) where
  -- the bits that a key marks in its block
  abbrev pub bits_of : List ℕ → List ℕ
  bits_of key = four_bits (hash_of (take width key))

  -- the calls with these events stand in the history of a filter
  abbrev pub Stands : Layout → FilterView → FilterView → List (Event (FilterCall (List ℕ)) FilterReply) → Type 0
  Stands layout old new es = phase.Stands ranks start (next width) permits layout old new es

  -- a step that makes this call, and is answered by these bits of the number that it found
  abbrev pub Answers : Layout → FilterCall (List ℕ) → List ℕ → ℕ → List (List ℕ) → List (FilterCall (List ℕ)) → Type 0
  Answers layout call bits n keys did = (did ≡ call ∷ []) × ((next width layout keys call).0 ≡ presence (list_all (has_bit n) bits))
