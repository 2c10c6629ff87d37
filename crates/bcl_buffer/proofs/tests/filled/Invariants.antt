use Rattle.std.proofs.Common.{◌≡◌}
use Rattle.bcl_buffer.specs.declared.buffer.State.TheVariants.{Filling}
use Rattle.bcl_buffer.proofs.tests.filled.Given as goal

abbrev pub invariant-loop-key : goal.invariant-loop-key
invariant-loop-key g l = (l.buffer.rank ≡ l.rank) × (l.buffer.shape ≡ l.fn.shape) × (l.buffer.state ≡ Filling)
