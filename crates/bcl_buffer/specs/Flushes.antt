-- A flush: the pairs of all buffers are merged into a map, each by the rank of its key's home.
-- Of how they come there it says nothing.
use Rattle.std.specs.Prelude.{◌≡◌, ℕ, List, [], map, replicate}
use Rattle.std.specs.List.{flat_map}
use Rattle.std.specs.List.Sorted.{IsPermutation}
use Rattle.bcl_words.specs.declared.pair.Pair.{Pair}
use Rattle.bcl_event.specs.Merged.{MapHistory}
use Rattle.bcl_map.specs.declared.shape.Shape.{Shape}
use Rattle.bcl_map.specs.Map.{Words}
use Rattle.bcl_map.specs.Calls.{MapView}
use Rattle.bcl_map.specs.declared.note.Note.{Note}
use Rattle.bcl_map.specs.declared.map.Map.{Map}
use Rattle.bcl_map.specs.declared.lead.MapLead.{MapLead}
use Rattle.bcl_map.specs.declared.pass.MapPass.{MapPass}
use Rattle.bcl_map.specs.Parts.{lead_key, pass_view, IsOf}
use Rattle.bcl_phase.specs.declared.phased.Phased.{Ghosts}
use Rattle.bcl_event.specs.declared.map.MapCall.{MapCall}
use Rattle.bcl_event.specs.declared.map.MapReply.{MapReply}
use Rattle.bcl_buffer.specs.declared.buffer.State.TheVariants.{Filling, Exchanged}
use Rattle.bcl_buffer.specs.Lanes.{Lanes, lane, items}
use Rattle.bcl_buffer.specs.Drains.{IsFor, merge_pair, Ran}

module _ {P : Type 0} where
  -- what all buffers have for a rank
  abbrev pub column : ℕ → List (Lanes P) → List P
  column rank buffers = flat_map (λ b. lane b rank) buffers

  -- the buffer without its items, as a new one
  abbrev pub emptied : Lanes P → Lanes P
  emptied buffer = record buffer { state = Filling; lanes = replicate buffer.shape.ranks [] }

-- each of these pairs was merged once, in some order, and nothing else was called
pub record MergedOnce {K V : Type 0} (key : K → Words) (value : V → Words) (op : Words → Words → Words) (shape : Shape) (pairs : List (Pair K V)) (old new : MapView) : Type 0 where
  pub events : MapHistory
  pub ran : Ran op shape old new events
  pub once : IsPermutation (map (merge_pair key value) pairs) (map (λ e. e.call) events)

module _ {K V L T P : Type 0} {g : Ghosts (Map K V L) (MapCall Words Words) (MapReply Words) T Note Shape} {p t : _} (lead : MapLead K V L (MapCall Words Words) (MapReply Words) T Note Shape g) where
  -- a rank's pass and its buffer, whose pairs are for the rank
  abbrev pub IsReady : ℕ → MapPass P K V L (MapCall Words Words) (MapReply Words) T Note Shape p g t × Lanes (Pair K V) → Type 0
  IsReady width it = IsOf it.0 lead × (it.1.state ≡ Exchanged) × IsFor width it.1 (pass_view it.0)

  -- its pairs were merged, and the buffer is empty
  abbrev pub IsDrained : (K → Words) → (V → Words) → (Words → Words → Words)
      → MapPass P K V L (MapCall Words Words) (MapReply Words) T Note Shape p g t × Lanes (Pair K V) → MapPass P K V L (MapCall Words Words) (MapReply Words) T Note Shape p g t × Lanes (Pair K V) → Type 0
  IsDrained key value op old new = IsOf new.0 lead × (new.1 ≡ emptied old.1) × MergedOnce key value op (lead_key lead) (items old.1) (pass_view old.0) (pass_view new.0)
