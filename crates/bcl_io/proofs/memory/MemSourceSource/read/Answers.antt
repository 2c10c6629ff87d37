use Rattle.std.proofs.Common.{◌≡◌, ◌∙◌, ap, drop, sym}
use Rattle.bcl_io.proofs.Pieces.{read_leaves}
use Rattle.bcl_io.proofs.memory.MemSourceSource.read.Goals as goal

pub returns-clause-bytes : goal.returns-clause-bytes
returns-clause-bytes c =
    let xs = c.self.inside.bytes.items in
    let same = c.deref.ensures.value in
    let left : drop c.self.inside.at xs ≡ c.args.self.now.left = ap (λ s. s.left) c.self.view_is in
    let leaves = read_leaves xs c.copy_from_slice.new.self c.args.buf.now c.self.inside.at c.min-n.result c.min.result c.self.inside.piece
    c.self.invariant.0 c.self.invariant.1 (rw same at c.copy_from_slice.ensures.after) c.min-n.ensures (rw same at c.min.ensures) in
    (sym left ∙ leaves.0, leaves.1)
