use Rattle.bcl_words.proofs.PairsRead.{joined_from_writes}
use Rattle.bcl_words.proofs.pair.join.Goals as goal

pub returns : goal.returns
returns c =
    joined_from_writes c.args.a c.args.b c.args.v.now c.args.w.now _ _ c.told-v c.requires
    c.copy_from_slice.ensures.after c.copy_from_slice-2.ensures.after
