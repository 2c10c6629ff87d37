use Rattle.bcl_event.proofs.Lists.{filled_in_words}
use Rattle.bcl_event.proofs.seq_array.SeqArray.new.Goals as goal

pub returns : goal.returns
returns g c =
    let new = c.new-items.ensures in
    filled_in_words g.T.Object.words c.args.len _ c.new-items.result.items _ c.args.fill new.items new.len c.in_ok-resize.ensures.items
