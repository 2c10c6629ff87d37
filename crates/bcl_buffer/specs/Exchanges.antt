-- An exchange of lanes between the buffers of all ranks.
-- Each rank gets what the others had for it.
use Rattle.std.specs.Prelude.{◌≡◌, ℕ, ◌<◌, List, [], length, slice_index_or}
use Rattle.bcl_buffer.specs.declared.buffer.State.TheVariants.{Filling, Exchanged}
use Rattle.bcl_buffer.specs.Lanes.{Lanes, lane}

module _ {P : Type 0} where
  -- the buffer of a rank
  abbrev pub at : List (Lanes P) → ℕ → Lanes P
  at buffers rank = slice_index_or buffers rank (record { rank = 0; shape = record { ranks = 0; per_rank = 0 }; state = Filling; lanes = [] })

  -- one buffer for each rank, of one shape, each of which fills
  pub record AllFill (buffers : List (Lanes P)) : Type 0 where
    pub rank : (r : ℕ) → r < length buffers → (at buffers r).rank ≡ r
    pub shape : (r : ℕ) → r < length buffers → (at buffers r).shape ≡ (at buffers 0).shape
    pub ranks : (at buffers 0).shape.ranks ≡ length buffers
    pub fills : (r : ℕ) → r < length buffers → (at buffers r).state ≡ Filling

  -- lane s of buffer r is what lane r of buffer s was
  pub record Exchanges (old new : List (Lanes P)) : Type 0 where
    pub count : length new ≡ length old
    pub rank : (r : ℕ) → r < length old → (at new r).rank ≡ (at old r).rank
    pub shape : (r : ℕ) → r < length old → (at new r).shape ≡ (at old r).shape
    pub wide : (r : ℕ) → r < length old → length (at new r).lanes ≡ length old
    pub exchanged : (r : ℕ) → r < length old → (at new r).state ≡ Exchanged
    pub lanes : (r s : ℕ) → r < length old → s < length old → lane (at new r) s ≡ lane (at old s) r
