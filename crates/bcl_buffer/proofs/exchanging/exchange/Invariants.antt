use Rattle.bcl_buffer.proofs.Swaps.{Settled}
use Rattle.bcl_buffer.proofs.exchanging.exchange.Given as goal

abbrev pub invariant-loop-r : goal.invariant-loop-r
invariant-loop-r g l = Settled l.fn.buffers l.buffers l.r
