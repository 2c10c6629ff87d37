-- The array under phases: its sequential object, and what its promises permit.
-- Each rank has so many items, its own block: the item at an index is of the rank index / per_rank.
use Rattle.std.specs.Prelude.{◌≡◌, ℕ, ◌*◌, ◌≤◌, ◌^◌, List, replicate}
use Rattle.bcl_segment.specs.declared.layout.Layout.{Layout}
use Rattle.bcl_segment.specs.Places.{places}
use Rattle.bcl_event.specs.declared.array.ArrayCall.{ArrayCall}
use Rattle.bcl_event.specs.declared.array.ArrayReply.{ArrayReply}
use Rattle.bcl_event.specs.Array.{array_step}
use Rattle.bcl_event.specs.Promises.{Permits, array_permits}
use Rattle.bcl_darray.specs.declared.array.Shape.{Shape}

abbrev pub ranks : Shape → ℕ
ranks shape = shape.ranks

-- the words of an item stand side by side
abbrev pub laid_out : ℕ → Shape → Layout
laid_out width shape = record { ranks = shape.ranks; per_rank = shape.per_rank * width }

-- how many items there are
abbrev pub size : Shape → ℕ
size shape = shape.ranks * shape.per_rank

-- each item is the fill
abbrev pub start : Shape → List (List ℕ)
start shape = replicate (size shape) shape.fill

abbrev pub next : Shape → List (List ℕ) → ArrayCall (List ℕ) → ArrayReply (List ℕ) × List (List ℕ)
next shape = array_step

abbrev pub permits : Shape → ℕ → ℕ → ArrayCall (List ℕ) → Type 0
permits shape promise rank call = Permits (array_permits shape.per_rank) promise rank call

-- the segments have no head words, and an item has `width` words, side by side
pub record IsShaped (width heads : ℕ) (layout : Layout) (shape : Shape) : Type 0 where
  pub none : heads ≡ 0
  pub of_ranks : layout.ranks ≡ shape.ranks
  pub of_items : layout.per_rank ≡ shape.per_rank * width
  pub some : 1 ≤ shape.per_rank
  pub few : places layout ≤ 2 ^ 27
