use Rattle.std.proofs.Common.{◌≡◌, ◌+◌, ◌∷◌, [], ℕ, length, length-append, sym, ap, ◌∙◌}
use Rattle.bcl_phase.proofs.Returns.{placed}
use Rattle.bcl_buffer.specs.declared.buffer.State.TheVariants.{Filling}
use Rattle.bcl_buffer.specs.Lanes.{Lanes}
use Rattle.bcl_buffer.proofs.tutorial.readers.Goals as goal

pub loop-rank-preserved : goal.loop-rank-preserved
loop-rank-preserved c = let I = c.loop-rank.invariant in let new = c.in_ok-buffer.ensures.empty in record {
  count = ap length c.in_ok-push.ensures.items ∙ (length-append c.loop-rank.kits.items (_ ∷ []) ∙ ap (λ (n : ℕ). n + 1) I.count);
  kits = placed (λ i k. (k.buffer.rank ≡ i) × (k.buffer.shape ≡ c.args.shape) × (k.buffer.state ≡ Filling)) _ _ _ c.in_ok-push.ensures.items I.kits
      (ap (λ (b : Lanes _). b.rank) new ∙ sym I.count, ap (λ (b : Lanes _). b.shape) new, ap (λ (b : Lanes _). b.state) new);
}
