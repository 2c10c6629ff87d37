use Rattle.std.proofs.Common.{◌≡◌, [], replicate}
use Rattle.bcl_buffer.proofs.buffer.Buffer.new.Given as goal

abbrev pub invariant-loop : goal.invariant-loop
invariant-loop g l = l.lanes.items ≡ replicate l.counter []
