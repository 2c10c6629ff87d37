-- What a contract sees of a map that one caller steps: its capacity and its pairs.
-- Where its calls make numbers, these have to be values.
use Rattle.std.specs.Prelude.{◌≡◌, ℕ, List, [], map, Bool, true, Option, Some, None}
use Rattle.bcl_event.specs.Numbers.{added}
use Rattle.bcl_event.specs.Map.{Pairs, value_at, stored, map_step}
use Rattle.bcl_event.specs.declared.map.MapCall.{MapCall}
use Rattle.bcl_event.specs.declared.map.MapCall.TheVariants.{Find, Insert, Merge, Add}
use Rattle.bcl_event.specs.declared.map.MapReply.{MapReply}

-- a map with its capacity
pub record Bounded : Type 0 where
  pub capacity : ℕ
  pub pairs : Pairs

abbrev pub new_map : ℕ → Bounded
new_map capacity = record { capacity = capacity; pairs = [] }

abbrev pub bounded : Bounded → MapReply (List ℕ) × Pairs → MapReply (List ℕ) × Bounded
bounded it answer = (answer.0, record it { pairs = answer.1 })

abbrev pub bounded_step : (List ℕ → List ℕ → List ℕ) → Bounded → MapCall (List ℕ) (List ℕ) → MapReply (List ℕ) × Bounded
bounded_step op it call = bounded it (map_step it.capacity op it.pairs call)

-- a value is stored for a key that has none
abbrev pub put_step : List ℕ → List ℕ → Bounded → MapReply (List ℕ) × Bounded
put_step key value it = bounded it (stored it.capacity key value (λ old. value) it.pairs None)

-- pairs at the words of their values
abbrev pub pairs_at : {V : Type 0} → (V → List ℕ) → List (List ℕ × V) → Pairs
pairs_at words entries = map (λ e. (e.0, words e.1)) entries

-- where a call makes a number, its word is that of a value
abbrev pub MakesSum : (List ℕ → Bool) → ℕ → Option (List ℕ) → Type 0
MakesSum passes n None = Unit {0}
MakesSum passes n (Some old) = passes (added n old) ≡ true

abbrev pub MakesValues : (List ℕ → Bool) → Pairs → MapCall (List ℕ) (List ℕ) → Type 0
MakesValues passes pairs (Find key) = Unit {0}
MakesValues passes pairs (Insert key value) = Unit {0}
MakesValues passes pairs (Merge key value) = Unit {0}
MakesValues passes pairs (Add key n) = MakesSum passes n (value_at key pairs)
