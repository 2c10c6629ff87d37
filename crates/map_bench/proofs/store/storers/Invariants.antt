use Rattle.std.proofs.Common.{◌≡◌, ◌+◌, ℕ, All, length}
use mathlib.Core.Option.{some}
use lib.ListN.{get_elem?}
use Rattle.bcl_map.specs.Calls.{IsMine}
use Rattle.bcl_phase.specs.Deals.{view, IsIn}
use Rattle.map_bench.proofs.store.storers.Given as goal

abbrev pub invariant-loop-pass : goal.invariant-loop-pass
invariant-loop-pass g l = record {
  count : length l.passes.items + length l.kits.items ≡ length l.fn.passes.items;
  passes : (i : ℕ) (p : _) → get_elem? l.passes.items i ≡ some p → IsIn p.pass l.lead.lead × ((view p.pass).rank ≡ i);
  kits : (i : ℕ) (k : _) → get_elem? l.kits.items i ≡ some k → (k.lead.now ≡ l.lead) × IsIn k.pass.pass l.lead.lead × ((view k.pass.pass).rank + i + 1 ≡ length l.fn.passes.items) × All (λ pair. IsMine (view k.pass.pass) (g.K.Object.words pair.0)) k.pairs.items;
}

abbrev pub decreases-loop-pass : goal.decreases-loop-pass
decreases-loop-pass g l = length l.passes.items
