use Rattle.std.proofs.Common.{sym, ap, ◌∙◌, arith}
use Rattle.bcl_segment.specs.declared.layout.Layout.{Layout}
use Rattle.bcl_phase.proofs.Zips.{all_at}
use Rattle.bcl_buffer.specs.Drains.{shape_in}
use Rattle.bcl_buffer.proofs.Filled.{all_fill, first_shape, as_many, each_fills}
use Rattle.bcl_buffer.proofs.tutorial.count_words.Goals as goal

pub superstep_all-requires-clause-ready : goal.superstep_all-requires-clause-ready
superstep_all-requires-clause-ready g c κs within = all_at _ c.in_ok-kits.kits.items (λ i k at. (c.in_ok-kits.ensures.kits i k at).2)

pub flush-requires-clause-fill : goal.flush-requires-clause-fill
flush-requires-clause-fill g c κs within =
    let many = as_many (λ k. k.buffer) (record { ranks = 4; per_rank = 8 }) c.in_ok-kits.kits.items c.superstep_all.new.kits.items c.in_ok-buffers.buffers.items c.superstep_all.ensures.steps c.in_ok-buffers.ensures in
    let four = c.in_ok-kits.ensures.all in
    all_fill c.in_ok-buffers.buffers.items (record { ranks = 4; per_rank = 8 }) (omega arith) (many ∙ four)
    (each_fills (λ k. k.buffer) (record { ranks = 4; per_rank = 8 }) c.in_ok-kits.kits.items c.superstep_all.new.kits.items c.in_ok-buffers.buffers.items c.superstep_all.ensures.steps c.in_ok-buffers.ensures (λ i k at. let it = c.in_ok-kits.ensures.kits i k at in (it.0, it.1)))

pub flush-requires-clause-count : goal.flush-requires-clause-count
flush-requires-clause-count g c κs within =
    as_many (λ k. k.buffer) (record { ranks = 4; per_rank = 8 }) c.in_ok-kits.kits.items c.superstep_all.new.kits.items c.in_ok-buffers.buffers.items c.superstep_all.ensures.steps c.in_ok-buffers.ensures ∙ (c.in_ok-kits.ensures.all ∙ sym (c.in_ok-lead.ensures.begins.begins.all.count ∙ ap (λ (l : Layout). l.ranks) (c.in_ok-lead.ensures.begins.same.2 ∙ c.in_ok-home.ensures.layout)))

pub flush-requires-clause-shape : goal.flush-requires-clause-shape
flush-requires-clause-shape g c κs within =
    let many = as_many (λ k. k.buffer) (record { ranks = 4; per_rank = 8 }) c.in_ok-kits.kits.items c.superstep_all.new.kits.items c.in_ok-buffers.buffers.items c.superstep_all.ensures.steps c.in_ok-buffers.ensures in
    let four = c.in_ok-kits.ensures.all in
    (c.in_ok-lead.ensures.begins.same.1 ∙ c.in_ok-home.ensures.key) ∙ ap (shape_in 2) (sym (first_shape c.in_ok-buffers.buffers.items (record { ranks = 4; per_rank = 8 }) (omega arith)
    (each_fills (λ k. k.buffer) (record { ranks = 4; per_rank = 8 }) c.in_ok-kits.kits.items c.superstep_all.new.kits.items c.in_ok-buffers.buffers.items c.superstep_all.ensures.steps c.in_ok-buffers.ensures (λ i k at. let it = c.in_ok-kits.ensures.kits i k at in (it.0, it.1)))))
