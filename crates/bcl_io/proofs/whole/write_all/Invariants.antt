use Rattle.std.proofs.Common.{length, ◌-◌, ◌≡◌, ◌≤◌, [], take}
use Rattle.std.specs.Io.KnownBytes.{Appends}
use Rattle.bcl_io.proofs.whole.write_all.Given as goal

-- the front is taken, no call has failed, and none was made for no bytes
abbrev pub invariant-loop-done : goal.invariant-loop-done
invariant-loop-done g l =
    let taken = g.O.Sink.taken in
    let faults = g.O.Sink.faults in
    record {
      in_range : l.done ≤ length l.bytes;
      appended : Appends (taken l.fn.out) (taken l.out) (take l.done l.bytes);
      no_fault : faults l.out ≡ faults l.fn.out;
      no_call : l.bytes ≡ [] → l.out ≡ l.fn.out;
    }

abbrev pub decreases-loop-done : goal.decreases-loop-done
decreases-loop-done g l = length l.bytes - l.done
