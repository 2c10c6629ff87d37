-- What the steps of a merge tell that reads the old value.
use Rattle.std.specs.Prelude.{◌≡◌, ℕ, List, slice_index, Some}
use Rattle.bcl_event.specs.History.{state_by}
use Rattle.bcl_event.specs.declared.map.MapCall.{MapCall}
use Rattle.bcl_event.specs.Map.{Pairs, value_at}
use Rattle.bcl_map.specs.declared.shape.Shape.{Shape}
use Rattle.bcl_map.specs.Map.{Words, next}
use Rattle.bcl_map.specs.Notes.{Note}
use Rattle.bcl_map.specs.Steps.{Goes_on}
use Rattle.bcl_map.specs.Finds.{reading}

-- a get of the word g of a value, which is no call
pub record ReadsValue (kw vw : ℕ) (op : Words → Words → Words) (L : Shape) (k : Words) (d : ℕ) (v : Words) (g : ℕ) (x : Note) (n : ℕ) (t : Pairs) (did : List (MapCall Words Words)) (y : Note) : Type 0 where
  pub still : state_by (next op L) t did ≡ t
  pub there : value_at k t ≡ Some v
  pub word : n ≡ slice_index v g
  pub on : Goes_on x (reading k d v) did y
