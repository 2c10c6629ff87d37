use Rattle.std.proofs.Common.{◌≡◌, ◌++◌, List, length}
use Rattle.bcl_words.specs.declared.pair.Pair.{Pair}
use Rattle.bcl_map.specs.Parts.{lead_key, pass_view, IsOf}
use Rattle.bcl_buffer.specs.declared.buffer.State.TheVariants.{Exchanged}
use Rattle.bcl_buffer.specs.Lanes.{items}
use Rattle.bcl_buffer.specs.Flushes.{MergedOnce}
use Rattle.bcl_buffer.proofs.flushing.drain_all.Given as goal

abbrev pub invariant-loop : goal.invariant-loop
invariant-loop g l = record {
  merged : (done : List (Pair _ _)) × MergedOnce g.K.Object.words g.V.Object.words g.L.MergeLaw.op (lead_key l.lead) done (pass_view l.fn.pass) (pass_view l.pass) × (items l.fn.buffer ≡ done ++ items l.buffer);
  of : IsOf l.pass l.lead;
  exchanged : l.buffer.state ≡ Exchanged;
  rank : l.buffer.rank ≡ l.fn.buffer.rank;
  shape : l.buffer.shape ≡ l.fn.buffer.shape;
}

abbrev pub decreases-loop : goal.decreases-loop
decreases-loop g l = length (items l.buffer)
