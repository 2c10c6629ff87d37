use Rattle.std.proofs.Common.{◌≡◌, ℕ, length}
use mathlib.Core.Option.{some}
use lib.ListN.{get_elem?}
use Rattle.bcl_buffer.specs.declared.buffer.State.TheVariants.{Filling}
use Rattle.bcl_buffer.proofs.tutorial.readers.Given as goal

abbrev pub invariant-loop-rank : goal.invariant-loop-rank
invariant-loop-rank l = record {
  count : length l.kits.items ≡ l.rank;
  kits : (i : ℕ) (k : _) → get_elem? l.kits.items i ≡ some k → (k.buffer.rank ≡ i) × (k.buffer.shape ≡ l.fn.shape) × (k.buffer.state ≡ Filling);
}
