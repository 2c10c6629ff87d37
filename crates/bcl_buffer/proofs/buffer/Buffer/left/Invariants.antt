use Rattle.std.proofs.Common.{◌≡◌, ◌-◌, ◌^◌, min, length, take}
use Rattle.std.specs.List.{flat_map}
use Rattle.bcl_buffer.proofs.buffer.Buffer.left.Given as goal

abbrev pub invariant-loop-lane : goal.invariant-loop-lane
invariant-loop-lane g l = l.left ≡ min (length (flat_map (λ x. x) (take l.lane-index l.self.lanes))) (2 ^ 64 - 1)
