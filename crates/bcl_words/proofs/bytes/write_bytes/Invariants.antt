use Rattle.std.proofs.Common.{◌≡◌, ◌*◌, ◌++◌, take, drop}
use Rattle.bcl_words.specs.Bytes.{bytes_of}
use Rattle.bcl_words.proofs.bytes.write_bytes.Given as goal

abbrev pub invariant-loop-i : goal.invariant-loop-i
invariant-loop-i l = l.bytes ≡ bytes_of (take l.i l.fn.w) ++ drop (8 * l.i) l.fn.bytes
