use Rattle.std.proofs.Common.{◌≡◌, ◌+◌, ◌∷◌, [], ℕ, length, length-append, sym, ap, ◌∙◌}
use Rattle.bcl_phase.proofs.Returns.{placed}
use Rattle.bcl_buffer.specs.declared.buffer.State.TheVariants.{Filling}
use Rattle.bcl_buffer.proofs.tests.flush.all_filled.Goals as goal

pub loop-rank-preserved : goal.loop-rank-preserved
loop-rank-preserved g c = let I = c.loop-rank.invariant in let new = c.in_ok-buffer.ensures in record {
  count = ap length c.in_ok-push.ensures.items ∙ (length-append c.loop-rank.buffers.items (_ ∷ []) ∙ ap (λ (n : ℕ). n + 1) I.count);
  each = placed (λ i b. (b.rank ≡ i) × (b.shape ≡ c.args.shape) × (b.state ≡ Filling)) _ _ _ c.in_ok-push.ensures.items I.each (new.rank ∙ sym I.count, new.shape, new.fills);
}
