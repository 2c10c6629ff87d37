-- Buffers while their lanes change places, two lanes at a time: what the pieces of an exchange say of one another.
use Rattle.std.specs.Prelude.{◌≡◌, ℕ, ◌<◌, ◌≤◌, ◌⊎◌, List, All, length, set}
use Rattle.bcl_segment.specs.declared.layout.Layout.{Layout}
use Rattle.bcl_buffer.specs.declared.buffer.State.TheVariants.{Turning}
use Rattle.bcl_buffer.specs.Lanes.{Lanes, lane}
use Rattle.bcl_buffer.specs.Exchanges.{at}

-- lane j of rank i has changed places, where those between ranks below m have, and those of rank m with ranks below k
abbrev pub IsTurned : ℕ → ℕ → ℕ → ℕ → Type 0
IsTurned m k i j = ((i < m) × (j < m)) ⊎ (((i ≡ m) × (j < k)) ⊎ ((j ≡ m) × (i < k)))

-- it has not yet
abbrev pub IsNext : ℕ → ℕ → ℕ → ℕ → Type 0
IsNext m k i j = ((m < i) ⊎ (m < j)) ⊎ (((i ≡ m) × (k ≤ j)) ⊎ ((j ≡ m) × (k ≤ i)))

module _ {P : Type 0} where
  -- each buffer has a lane for each
  abbrev pub AreWide : List (Lanes P) → Type 0
  AreWide buffers = (r : ℕ) → r < length buffers → length (at buffers r).lanes ≡ length buffers

  abbrev pub AreTurning : List (Lanes P) → Type 0
  AreTurning buffers = (r : ℕ) → r < length buffers → (at buffers r).state ≡ Turning

  -- these items stand in the lane of a rank
  abbrev pub with_lane : Lanes P → ℕ → List P → Lanes P
  with_lane buffer rank items = record buffer { lanes = set buffer.lanes rank items }

  -- each buffer was filling, with its items in the lanes of their homes, and turns now
  pub record Opened (home : Layout → P → ℕ) (old new : List (Lanes P)) : Type 0 where
    pub count : length new ≡ length old
    pub turning : (r : ℕ) → r < length old → at new r ≡ record (at old r) { state = Turning }
    pub wide : (r : ℕ) → r < length old → length (at old r).lanes ≡ (at old r).shape.ranks
    pub homes : (r : ℕ) → r < length old → (s : ℕ) → All (λ p. home (at old r).shape p ≡ s) (lane (at old r) s)

  pub record Turned (start now : List (Lanes P)) (m k : ℕ) : Type 0 where
    pub count : length now ≡ length start
    pub wide : AreWide now
    pub turning : AreTurning now
    pub rank : (r : ℕ) → r < length start → (at now r).rank ≡ (at start r).rank
    pub shape : (r : ℕ) → r < length start → (at now r).shape ≡ (at start r).shape
    pub crossed : (i j : ℕ) → i < length start → j < length start → IsTurned m k i j → lane (at now i) j ≡ lane (at start j) i
    pub kept : (i j : ℕ) → i < length start → j < length start → IsNext m k i j → lane (at now i) j ≡ lane (at start i) j
