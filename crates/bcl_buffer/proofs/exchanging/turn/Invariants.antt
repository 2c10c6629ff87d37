use Rattle.bcl_buffer.specs.Turning.{Turned}
use Rattle.bcl_buffer.proofs.exchanging.turn.Given as goal

abbrev pub invariant-loop-r : goal.invariant-loop-r
invariant-loop-r g l = Turned l.initial.buffers l.buffers l.r 0
