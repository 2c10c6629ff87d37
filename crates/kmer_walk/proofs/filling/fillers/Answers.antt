use Rattle.std.proofs.Common.{◌≡◌, ◌+◌, ℕ, [], ◌∷◌, length, length-append, replicate, refl, sym, ap, ◌∙◌}
use Rattle.bcl_phase.proofs.Returns.{placed}
use Rattle.bcl_buffer.specs.declared.buffer.State.TheVariants.{Filling}
use Rattle.kmer_walk.proofs.filling.fillers.Goals as goal

pub loop-rank-preserved : goal.loop-rank-preserved
loop-rank-preserved c = let I = c.loop-rank.invariant in let kits = c.loop-rank.kits.items in
    let more : length _ ≡ length kits + 1 = ap length c.in_ok-push.ensures.items ∙ length-append kits (_ ∷ []) in
    let here : c.loop-rank.rank ≡ length kits = sym I.count in record {
      count = more ∙ ap (λ (n : ℕ). n + 1) I.count;
      kits = placed (λ r f. (f.lines.now ≡ c.args.lines.now) × (f.k ≡ c.args.k) × (f.rank ≡ r) × (f.ranks ≡ c.args.shape.ranks) × (f.buffer ≡ record { rank = r; shape = c.args.shape; state = Filling; lanes = replicate c.args.shape.ranks [] })) _ _ _ c.in_ok-push.ensures.items I.kits
          (refl, refl, here, refl, c.in_ok-new.ensures.empty ∙ (λ j. record { rank = here j; shape = c.args.shape; state = Filling; lanes = replicate c.args.shape.ranks [] }));
    }
