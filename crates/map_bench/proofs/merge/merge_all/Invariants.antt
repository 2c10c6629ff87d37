use Rattle.std.proofs.Common.{◌≡◌}
use Rattle.bcl_phase.specs.Deals.{view, IsIn}
use Rattle.map_bench.proofs.merge.merge_all.Given as goal

abbrev pub invariant-loop-pair : goal.invariant-loop-pair
invariant-loop-pair g l = record {
  of : IsIn l.pass.pass l.lead.lead;
  key : (view l.pass.pass).key ≡ (view l.initial.pass.pass).key;
  rank : (view l.pass.pass).rank ≡ (view l.initial.pass.pass).rank;
}
