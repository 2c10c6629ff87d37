use Rattle.bcl_event.proofs.Bits.{has_bit-set}
use Rattle.bcl_event.proofs.marks.with_bit.Goals as goal

pub returns : goal.returns
returns c = record { bits = λ other. has_bit-set c.args.block c.args.bit other c.requires.low }
