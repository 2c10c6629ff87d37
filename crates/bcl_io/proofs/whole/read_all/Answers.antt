use Rattle.std.proofs.Common.{◌++◌, take}
use Rattle.std.proofs.KnownBytes.{Consumes-trans}
use Rattle.bcl_io.proofs.whole.read_all.Goals as goal

-- the piece that found no memory was taken too
pub returns-in_err-extend_from_slice-clause-front : goal.returns-in_err-extend_from_slice-clause-front
returns-in_err-extend_from_slice-clause-front g c =
    let left = g.S.Source.left in
    let so_far = c.loop-piece.bytes.items in
    let piece = take c.in_ok-n.n c.read.new.buf in
    (so_far ++ piece, Consumes-trans (left c.args.src.now) (left c.loop-piece.src) (left c.read.new.self) so_far piece c.loop-piece.invariant.consumed c.in_ok-n.ensures.bytes.0)
