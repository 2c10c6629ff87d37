use Rattle.std.proofs.Common.{◌≡◌, suc, ◌+◌, ◌-◌, ◌*◌, ◌<◌, ◌≤◌}
use Rattle.bcl_phase.specs.Parts.{lead_key, lead_layout, pass_view, IsOf}
use Rattle.bcl_map.specs.Map.{places, path, size}
use Rattle.bcl_map.specs.Calls.{IsBucketAt}
use Rattle.bcl_map.proofs.Done.{Tries}
use Rattle.bcl_map.proofs.place.place_of.Given as goal

abbrev pub invariant-loop-bucket : goal.invariant-loop-bucket
invariant-loop-bucket g l = record {
  of : IsOf l.pass l.lead;
  at : IsBucketAt (size g.K.Object.WORDS g.V.Object.WORDS) (lead_layout l.lead) l.from.at (path (lead_key l.lead) l.key l.from.number);
  within : l.from.number < places (lead_key l.lead);
  tries : Tries g.L.MergeLaw.op (lead_key l.lead) l.key l.from.number (pass_view l.initial.pass) (pass_view l.pass);
  gets : (pass_view l.pass).gets + (pass_view l.initial.pass).atomics ≤ (pass_view l.initial.pass).gets + l.from.number * (1 + g.K.Object.WORDS) + (pass_view l.pass).atomics;
  each : (pass_view l.initial.pass).gets + l.from.number + (pass_view l.pass).atomics ≤ (pass_view l.pass).gets + (pass_view l.initial.pass).atomics;
  puts : (pass_view l.pass).puts ≡ (pass_view l.initial.pass).puts;
}

-- each exchange that is lost is at a place further on
abbrev pub decreases-loop-bucket : goal.decreases-loop-bucket
decreases-loop-bucket g l = suc (places (lead_key l.lead)) + (pass_view l.initial.pass).atomics - (pass_view l.pass).atomics
