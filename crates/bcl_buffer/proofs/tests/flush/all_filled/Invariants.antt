use Rattle.std.proofs.Common.{◌≡◌, ℕ, length}
use mathlib.Core.Option.{some}
use lib.ListN.{get_elem?}
use Rattle.bcl_buffer.specs.declared.buffer.State.TheVariants.{Filling}
use Rattle.bcl_buffer.proofs.tests.flush.all_filled.Given as goal

abbrev pub invariant-loop-rank : goal.invariant-loop-rank
invariant-loop-rank g l = record {
  count : length l.buffers.items ≡ l.rank;
  each : (i : ℕ) (b : _) → get_elem? l.buffers.items i ≡ some b → (b.rank ≡ i) × (b.shape ≡ l.fn.shape) × (b.state ≡ Filling);
}
