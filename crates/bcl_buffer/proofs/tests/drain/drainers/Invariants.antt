use Rattle.std.proofs.Common.{◌≡◌, ◌+◌, ℕ, length}
use mathlib.Core.Option.{some}
use lib.ListN.{get_elem?}
use Rattle.bcl_map.specs.Parts.{pass_view, IsOf}
use Rattle.bcl_buffer.specs.declared.buffer.State.TheVariants.{Exchanged}
use Rattle.bcl_buffer.specs.Drains.{IsFor}
use Rattle.bcl_buffer.proofs.tests.drain.drainers.Given as goal

abbrev pub invariant-loop-pass : goal.invariant-loop-pass
invariant-loop-pass l = record {
  count : length l.passes.items + length l.kits.items ≡ length l.fn.passes.items;
  passes : (i : ℕ) (p : _) → get_elem? l.passes.items i ≡ some p → IsOf p l.lead × ((pass_view p).rank ≡ i);
  kits : (i : ℕ) (k : _) → get_elem? l.kits.items i ≡ some k → (k.lead.now ≡ l.lead) × IsOf k.pass l.lead × (k.buffer.state ≡ Exchanged) × IsFor 1 k.buffer (pass_view k.pass) × ((pass_view k.pass).rank + i + 1 ≡ length l.fn.passes.items);
}

abbrev pub decreases-loop-pass : goal.decreases-loop-pass
decreases-loop-pass l = length l.passes.items
