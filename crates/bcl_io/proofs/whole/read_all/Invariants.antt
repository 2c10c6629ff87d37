use Rattle.std.proofs.Common.{◌≡◌, ◌+◌, ◌-◌, vec_len}
use Rattle.std.specs.Io.KnownBytes.{Consumes}
use Rattle.bcl_io.proofs.whole.read_all.Given as goal

-- what is read so far is gone from the source, and no call has failed
abbrev pub invariant-loop-piece : goal.invariant-loop-piece
invariant-loop-piece g l =
    let left = g.S.Source.left in
    let faults = g.S.Source.faults in
    record {
      consumed : Consumes (left l.fn.src) (left l.src) l.bytes.items;
      no_fault : faults l.src ≡ faults l.fn.src;
    }

abbrev pub decreases-loop-piece : goal.decreases-loop-piece
decreases-loop-piece g l = l.limit + 1 - vec_len l.bytes
