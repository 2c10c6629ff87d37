use Rattle.std.proofs.Common.{◌≡◌, [], ◌+◌, ◌*◌, ◌<◌, ◌≤◌}
use Rattle.bcl_phase.specs.Parts.{lead_key, lead_layout, pass_view, IsOf}
use Rattle.bcl_map.specs.Map.{places, path, size}
use Rattle.bcl_map.specs.Calls.{IsBucketAt}
use Rattle.bcl_map.specs.Reaches.{HasPassed, Ends}
use Rattle.bcl_map.proofs.Done.{Stood}
use Rattle.bcl_map.proofs.reach.reach_from.Given as goal

abbrev pub invariant-loop-number : goal.invariant-loop-number
invariant-loop-number g l = record {
  of : IsOf l.pass l.lead;
  at : IsBucketAt (size g.K.Object.WORDS g.V.Object.WORDS) (lead_layout l.lead) l.at (path (lead_key l.lead) l.key l.number);
  on : l.number < places (lead_key l.lead) → Stood g.L.MergeLaw.op (lead_key l.lead) l.fn.from.number l.number (pass_view l.initial.pass) (pass_view l.pass) × HasPassed l.key l.number (pass_view l.pass);
  ends : places (lead_key l.lead) ≤ l.number → Ends g.L.MergeLaw.op (lead_key l.lead) (g.C.Walking.walker l.call l.key).call (g.C.Walking.walker l.call l.key).past (pass_view l.initial.pass) (pass_view l.pass) × ((pass_view l.pass).note.claims ≡ []);
  gets : (pass_view l.pass).gets + l.fn.from.number * (1 + g.K.Object.WORDS) ≤ (pass_view l.initial.pass).gets + l.number * (1 + g.K.Object.WORDS);
  each : (pass_view l.initial.pass).gets + l.number ≤ (pass_view l.pass).gets + l.fn.from.number;
  puts : (pass_view l.pass).puts ≡ (pass_view l.initial.pass).puts;
  atomics : (pass_view l.pass).atomics ≡ (pass_view l.initial.pass).atomics;
}
