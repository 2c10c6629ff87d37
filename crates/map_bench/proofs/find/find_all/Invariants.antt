use Rattle.bcl_phase.specs.Deals.{IsIn}
use Rattle.map_bench.proofs.find.find_all.Given as goal

abbrev pub invariant-loop-pair : goal.invariant-loop-pair
invariant-loop-pair g l = IsIn l.pass.pass l.lead.lead
