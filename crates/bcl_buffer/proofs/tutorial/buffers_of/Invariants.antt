use Rattle.std.proofs.Common.{◌≡◌, map}
use Rattle.bcl_buffer.proofs.tutorial.buffers_of.Given as goal

abbrev pub invariant-loop-kit : goal.invariant-loop-kit
invariant-loop-kit l = l.buffers.items ≡ map (λ k. k.buffer) l.yielded
