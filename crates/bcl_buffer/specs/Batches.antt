-- A batch of a drain: the first pairs of a lane, whose buckets are brought near before the first of them is merged.
use Rattle.std.specs.Prelude.{◌≡◌, ℕ, ◌<◌, List, ◌++◌, length, slice_index_or}
use Rattle.bcl_words.specs.declared.pair.Pair.{Pair}
use Rattle.bcl_map.specs.declared.shape.Shape.{Shape}
use Rattle.bcl_map.specs.declared.walk.Start.{Start}
use Rattle.bcl_map.specs.Map.{Words}
use Rattle.bcl_map.specs.Calls.{MapView, start_at}
use Rattle.bcl_buffer.specs.declared.draining.Drained.{Drained}
use Rattle.bcl_buffer.specs.declared.draining.Drained.TheVariants.{All as drained_all, Full as drained_full}
use Rattle.bcl_buffer.specs.Drains.{Merged, StopsAt}

-- the paths of the first n pairs begin at the first n of these starts
abbrev pub AreStarts : {K V : Type 0} → (K → Words) → Shape → ℕ → List (Pair K V) → List Start → Type 0
AreStarts {K} {V} key shape n pairs starts = (i : ℕ) (p : Pair K V) → i < n → p ≡ slice_index_or pairs i p → slice_index_or starts i (record { place = 0; home = 0 }) ≡ start_at shape (key p.a)

module _ {K V : Type 0} (key : K → Words) (value : V → Words) (op : Words → Words → Words) (shape : Shape) where
  -- so many pairs were merged, in order, and those behind them are left
  pub record MergesFront (count : ℕ) (all left : List (Pair K V)) (old new : MapView) : Type 0 where
    pub done : List (Pair K V)
    pub merged : Merged key value op shape done old new
    pub rest : all ≡ done ++ left
    pub long : length done ≡ count

  -- what became of the pairs of a lane, of which so many were to be merged
  abbrev pub DrainsFront : ℕ → List (Pair K V) → List (Pair K V) → MapView → MapView → Drained K V → Type 0
  DrainsFront count old new view view' drained_all = MergesFront count old new view view'
  DrainsFront count old new view view' (drained_full p) = StopsAt key value op shape p old new view view'
