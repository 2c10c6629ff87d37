-- What the calls of a map's history come to: how many keys they may add, and what their merges leave.
-- Where all calls but finds are merges, a key's value is the fold of the values that were merged for it, in the order of the history.
use Rattle.std.specs.Prelude.{◌≡◌, ◌≢◌, ℕ, List, [], ◌∷◌, All, Bool, true, Option, Some, None, fold, if◌then◌else◌}
use Rattle.std.specs.List.{sum_by, flat_map}
use Rattle.std.specs.Str.{bytes_eq}
use Rattle.bcl_words.specs.Merges.{HoldTheSame}
use Rattle.bcl_event.specs.declared.event.Event.{Event}
use Rattle.bcl_event.specs.declared.map.MapCall.{MapCall}
use Rattle.bcl_event.specs.declared.map.MapCall.TheVariants.{Find, Insert, Merge, Add}
use Rattle.bcl_event.specs.declared.map.MapReply.{MapReply}
use Rattle.bcl_event.specs.declared.map.MapReply.TheVariants.{Full}
use Rattle.bcl_event.specs.History.{IsLegal}
use Rattle.bcl_event.specs.Map.{Pairs, map_step}

abbrev pub MapHistory : Type 0
MapHistory = List (Event (MapCall (List ℕ) (List ℕ)) (MapReply (List ℕ)))

-- how many keys a call may add
abbrev pub may_add : MapCall (List ℕ) (List ℕ) → ℕ
may_add (Find key) = 0
may_add (Insert key value) = 1
may_add (Merge key value) = 1
may_add (Add key n) = 0

-- how many keys the calls of a history may add
abbrev pub most_keys : MapHistory → ℕ
most_keys history = sum_by (λ e. may_add e.call) history

abbrev pub NoneFull : MapHistory → Type 0
NoneFull history = All (λ e. e.reply ≢ Full) history

-- a call that changes no value but by merging one into it
abbrev pub Merges : MapCall (List ℕ) (List ℕ) → Type 0
Merges (Find key) = Unit {0}
Merges (Insert key value) = ⊥
Merges (Merge key value) = Unit {0}
Merges (Add key n) = ⊥

-- a legal history of finds and merges alone, in which each merge had room
pub record MergesAlone (capacity : ℕ) (op : List ℕ → List ℕ → List ℕ) (pairs : Pairs) (history : MapHistory) : Type 0 where
  pub legal : IsLegal (map_step capacity op) pairs history
  pub merges : All (λ e. Merges e.call) history
  pub none_full : NoneFull history

-- the value that a call merges for a key, if it does
abbrev pub merged_by : List ℕ → MapCall (List ℕ) (List ℕ) → List (List ℕ)
merged_by key (Find other) = []
merged_by key (Insert other value) = []
merged_by key (Merge other value) = if bytes_eq key other then value ∷ [] else []
merged_by key (Add other n) = []

-- the values that are merged for a key, in order
abbrev pub merged_for : List ℕ → MapHistory → List (List ℕ)
merged_for key history = flat_map (λ e. merged_by key e.call) history

-- for a key two histories merge the same values, whatever their order, and these pass
pub record MergeTheSame (passes : List ℕ → Bool) (key : List ℕ) (one two : MapHistory) : Type 0 where
  pub one_passes : All (λ value. passes value ≡ true) (merged_for key one)
  pub two_passes : All (λ value. passes value ≡ true) (merged_for key two)
  pub same : HoldTheSame (merged_for key one) (merged_for key two)

-- what a value, or none, becomes as these are merged into it in order
abbrev pub folded : (List ℕ → List ℕ → List ℕ) → Option (List ℕ) → List (List ℕ) → Option (List ℕ)
folded op None [] = None
folded op None (value ∷ values) = Some (fold op value values)
folded op (Some old) values = Some (fold op old values)
