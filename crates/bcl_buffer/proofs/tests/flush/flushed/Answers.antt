use Rattle.std.proofs.Common.{sym, ap, ◌∙◌, arith}
use Rattle.bcl_segment.specs.declared.layout.Layout.{Layout}
use Rattle.bcl_buffer.specs.Drains.{shape_in}
use Rattle.bcl_buffer.proofs.Filled.{all_fill, first_shape}
use Rattle.bcl_buffer.proofs.tests.flush.flushed.Goals as goal

pub flush-requires-clause-fill : goal.flush-requires-clause-fill
flush-requires-clause-fill g c κs within = let all = c.in_ok-buffers.ensures.all in let some = c.requires.ranks.0 in
    all_fill c.in_ok-buffers.buffers.items c.args.shape (omega arith) all c.in_ok-buffers.ensures.each

pub flush-requires-clause-count : goal.flush-requires-clause-count
flush-requires-clause-count g c κs within = c.in_ok-buffers.ensures.all ∙ sym (c.in_ok-lead.ensures.begins.begins.all.count ∙ ap (λ (l : Layout). l.ranks) (c.in_ok-lead.ensures.begins.same.2 ∙ c.in_ok-home.ensures.layout))

pub flush-requires-clause-shape : goal.flush-requires-clause-shape
flush-requires-clause-shape g c κs within = let all = c.in_ok-buffers.ensures.all in let some = c.requires.ranks.0 in
    (c.in_ok-lead.ensures.begins.same.1 ∙ c.in_ok-home.ensures.key) ∙ ap (shape_in g.K.Object.WORDS) (sym (first_shape c.in_ok-buffers.buffers.items c.args.shape (omega arith) c.in_ok-buffers.ensures.each))
