use Rattle.std.proofs.Common.{arith}
use Rattle.bcl_buffer.specs.Lanes.{home_in}
use Rattle.bcl_buffer.proofs.Swaps.{own_items}
use Rattle.bcl_buffer.proofs.exchanging.exchange.Goals as goal

pub settle-requires-clause-own : goal.settle-requires-clause-own
settle-requires-clause-own g c κs within = let I = c.loop-r.invariant in let low = c.loop-r-test.true in let end = c.loop-r.auto.buffers in let count = I.count in
    own_items (λ shape p. home_in g.K.Object.WORDS shape (g.K.Object.words p.a)) _ _ _ _ c.loop-r.r c.index-buffers-r.result c.requires.fill c.open.ensures.opened I (omega arith)
