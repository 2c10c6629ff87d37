-- The book of a count by ranks that share a map: the history of the map, in which a one is merged for each place at which a k-mer stands.
-- Each merge is made by the rank whose home the k-mer is.
use Rattle.std.specs.Prelude.{◌≡◌, ℕ, ◌<◌, List, [], All, length, map}
use Rattle.bcl_words.specs.Numbers.{one_word}
use Rattle.bcl_merge.specs.Sum.{sum_of}
use Rattle.bcl_event.specs.declared.event.Event.{Event}
use Rattle.bcl_event.specs.declared.map.MapCall.{MapCall}
use Rattle.bcl_event.specs.declared.map.MapCall.TheVariants.{Merge}
use Rattle.bcl_event.specs.declared.map.MapReply.{MapReply}
use Rattle.bcl_event.specs.History.{IsLegal}
use Rattle.bcl_event.specs.Map.{map_step}
use Rattle.bcl_event.specs.Merged.{MapHistory, NoneFull, merged_for}
use Rattle.bcl_map.specs.declared.shape.Shape.{Shape}
use Rattle.bcl_map.specs.Map.{Words, places, home}
use Rattle.bcl_map.specs.Room.{shape_for}
use Rattle.kmer_text.specs.Kmers.{number_of}
use Rattle.kmer_text.specs.Windows.{all_windows, total}
use Rattle.kmer_rows.specs.Counts.{times}

-- the map has room for twice as many k-mers as there are windows
abbrev pub shape_of : ℕ → ℕ → Shape
shape_of ranks windows = shape_for 1 ranks windows

-- one more of the k-mer that has this number
abbrev pub one_more : ℕ → MapCall Words Words
one_more q = Merge (one_word q) (one_word 1)

-- the event is that of some k-mer, at the rank of its home
abbrev pub IsAtHome : Shape → Event (MapCall Words Words) (MapReply Words) → Type 0
IsAtHome shape e = (q : ℕ) × (e.call ≡ one_more q) × (home shape (one_word q) ≡ e.rank)

pub record CountBook (k ranks : ℕ) (lines : List (List ℕ)) (history : MapHistory) : Type 0 where
  pub legal : IsLegal (map_step (places (shape_of ranks (total k lines))) sum_of) [] history
  pub ranked : All (λ e. e.rank < ranks) history
  pub none_full : NoneFull history
  pub at_home : All (IsAtHome (shape_of ranks (total k lines))) history
  -- exactly as many merges for a number as there are places at which its k-mer stands
  pub each : (q : ℕ) → length (merged_for (one_word q) history) ≡ times q (map number_of (all_windows k lines))
