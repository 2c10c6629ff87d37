use Rattle.std.proofs.Common.{◌≡◌, ◌+◌, ◌++◌, length, length-append, set, ap, ap₂, sym, ◌∙◌, arith}
use Rattle.bcl_buffer.specs.Lanes.{lane}
use Rattle.bcl_buffer.specs.Turning.{with_lane}
use Rattle.bcl_buffer.proofs.Swaps.{at_low, at_high, set_both}
use Rattle.bcl_buffer.proofs.exchanging.swap_at.Goals as goal

pub returns : goal.returns
returns g c = let bs = c.args.buffers.now in let r = c.args.r in let s = c.args.s in
    let cut = c.split_at_mut-low.ensures in let low = c.split_at_mut-low.result.0.now in let high = c.split_at_mut-low.result.1.now in
    let below = c.requires.below in let within = c.requires.within in
    let all : length bs ≡ length low + length high = ap length cut.value ∙ length-append low high in
    let front : length low ≡ r = cut.front_len in
    let lower = at_low bs low high r cut.value front s _ _ below in
    let upper = at_high bs low high r cut.value front _ _ (omega arith) in record {
      swapped = ap₂ (λ u v. set low s u ++ set high 0 v)
          (c.swap_lanes.ensures.one ∙ ap₂ (λ u v. with_lane u r (lane v s)) (sym lower) (sym upper))
          (c.swap_lanes.ensures.other ∙ ap₂ (λ u v. with_lane u s (lane v r)) (sym upper) (sym lower))
          ∙ set_both bs low high r cut.value front s _ _ below;
    }
