use Rattle.std.proofs.Common.{◌∙◌, arith}
use Rattle.bcl_words.proofs.ByteLoops.{bytes_written}
use Rattle.bcl_words.proofs.bytes.write_bytes.Goals as goal

pub loop-i-preserved : goal.loop-i-preserved
loop-i-preserved c =
    bytes_written c.loop-i.i c.args.w.now c.args.bytes.now c.loop-i.bytes c.copy_from_slice.new.self
    (omega (arith, c.told-w)) (omega arith) c.loop-i.invariant (c.copy_from_slice.ensures.after ∙ c.to_le_bytes.ensures)
