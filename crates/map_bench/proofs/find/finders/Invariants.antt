use Rattle.std.proofs.Common.{◌≡◌, ℕ, length}
use mathlib.Core.Option.{some}
use lib.ListN.{get_elem?}
use Rattle.bcl_phase.specs.Deals.{view, IsIn}
use Rattle.map_bench.proofs.find.finders.Given as goal

abbrev pub invariant-loop-pass : goal.invariant-loop-pass
invariant-loop-pass g l = record {
  passes : (i : ℕ) (p : _) → get_elem? l.passes.items i ≡ some p → IsIn p.pass l.lead.lead × ((view p.pass).rank ≡ i);
  kits : (i : ℕ) (k : _) → get_elem? l.kits.items i ≡ some k → IsIn k.pass.pass k.lead.now.lead;
}

abbrev pub decreases-loop-pass : goal.decreases-loop-pass
decreases-loop-pass g l = length l.passes.items
