-- Buffers of items: a lane for each rank.
-- While a buffer fills, a lane has items for its rank; once it is exchanged, all items are for the buffer's own rank.
use Rattle.std.specs.Prelude.{◌≡◌, ℕ, ◌/◌, List, [], ◌∷◌, Option, Some, None, slice_index_or}
use Rattle.std.specs.List.{flat_map, All}
use Rattle.bcl_segment.specs.declared.layout.Layout.{Layout}
use Rattle.bcl_segment.specs.Places.{places}
use Rattle.bcl_bucket.specs.Paths.{start_of}
use Rattle.bcl_buffer.specs.declared.buffer.State.{State}
use Rattle.bcl_buffer.specs.declared.buffer.State.TheVariants.{Filling, Exchanged}

-- the first item was taken, or there was none
abbrev pub Takes : {P : Type 0} → Option P → List P → List P → Type 0
Takes None old new = (old ≡ []) × (new ≡ [])
Takes (Some item) old new = old ≡ item ∷ new

-- what a contract sees of a buffer
pub record Lanes (P : Type 0) : Type 0 where
  pub rank : ℕ
  pub shape : Layout
  pub state : State
  pub lanes : List (List P)

-- the lane of a rank
abbrev pub lane : {P : Type 0} → Lanes P → ℕ → List P
lane buffer rank = slice_index_or buffer.lanes rank []

-- all items, lane by lane
abbrev pub items : {P : Type 0} → Lanes P → List P
items buffer = flat_map (λ l. l) buffer.lanes

-- the home of a key that has so many words of its own
abbrev pub home_in : ℕ → Layout → List ℕ → ℕ
home_in width shape key = start_of width key (places shape) / shape.per_rank

-- items stand where they belong
pub record IsPlaced {P : Type 0} (home : P → ℕ) (buffer : Lanes P) : Type 0 where
  pub filling : buffer.state ≡ Filling → (rank : ℕ) → All (λ p. home p ≡ rank) (lane buffer rank)
  pub exchanged : buffer.state ≡ Exchanged → (rank : ℕ) → All (λ p. home p ≡ buffer.rank) (lane buffer rank)
