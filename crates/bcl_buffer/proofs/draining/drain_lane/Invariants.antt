use Rattle.std.proofs.Common.{◌≡◌, ◌++◌, List, All, length}
use Rattle.bcl_words.specs.declared.pair.Pair.{Pair}
use Rattle.bcl_map.specs.Calls.{IsMine}
use Rattle.bcl_map.specs.Parts.{lead_key, pass_view, IsOf}
use Rattle.bcl_buffer.specs.Drains.{Merged}
use Rattle.bcl_buffer.proofs.draining.drain_lane.Given as goal

abbrev pub invariant-loop-starts : goal.invariant-loop-starts
invariant-loop-starts g l = record {
  merged : (done : List (Pair _ _)) × Merged g.K.Object.words g.V.Object.words g.L.MergeLaw.op (lead_key l.lead) done (pass_view l.fn.pass) (pass_view l.pass) × (l.fn.lane ≡ done ++ l.lane);
  of : IsOf l.pass l.lead;
  mine : All (λ p. IsMine (pass_view l.pass) (g.K.Object.words p.a)) l.lane;
}

abbrev pub decreases-loop-starts : goal.decreases-loop-starts
decreases-loop-starts g l = length l.lane
