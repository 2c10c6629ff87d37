use Rattle.std.proofs.Common.{◌≡◌, map}
use Rattle.bcl_buffer.proofs.flushing.parts_of.Given as goal

abbrev pub invariant-loop-kit : goal.invariant-loop-kit
invariant-loop-kit g l = record {
  passes : l.passes.items ≡ map (λ k. k.pass) l.yielded;
  buffers : l.buffers.items ≡ map (λ k. k.buffer) l.yielded;
}
