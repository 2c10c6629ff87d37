use Rattle.std.proofs.Common.{◌≡◌, ◌++◌, length, map}
use Rattle.bcl_buffer.proofs.flushing.drainers.Given as goal

abbrev pub invariant-loop-pass : goal.invariant-loop-pass
invariant-loop-pass g l = record {
  passes : map (λ k. k.pass) l.kits.items ≡ l.yielded;
  buffers : map (λ k. k.buffer) l.kits.items ++ l.buffers.rest.items ≡ l.fn.buffers.items;
  left : length l.buffers.rest.items ≡ length l.pass-iterator.rest.items;
}
