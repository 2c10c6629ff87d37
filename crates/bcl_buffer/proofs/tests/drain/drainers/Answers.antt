use Rattle.std.proofs.Common.{rules, ◌≡◌, ◌+◌, [], ◌∷◌, length, length-append, refl, sym, ap, ◌∙◌, arith, Some, true}
use Rattle.bcl_phase.proofs.Returns.{placed, last_placed, rest_placed}
use Rattle.bcl_map.specs.declared.shape.Shape.{Shape}
use Rattle.bcl_map.specs.Parts.{pass_view, IsOf}
use Rattle.bcl_buffer.specs.declared.buffer.State.TheVariants.{Exchanged}
use Rattle.bcl_buffer.specs.Drains.{shape_in, IsFor}
use Rattle.bcl_buffer.proofs.tests.drain.drainers.Goals as goal

pub loop-pass-preserved : goal.loop-pass-preserved
loop-pass-preserved c = let I = c.loop-pass.invariant in let n = length c.args.passes.items in
    let last = last_placed (λ i p. IsOf p c.args.lead.now × ((pass_view p).rank ≡ i)) _ _ _ c.in-Some.ensures.items I.passes in
    let fewer : length c.loop-pass.passes.items ≡ _ + 1 = ap length c.in-Some.ensures.items ∙ length-append _ (c.in-Some.pass ∷ []) in
    let more : length _ ≡ length c.loop-pass.kits.items + 1 = ap length c.in_ok-push.ensures.items ∙ length-append c.loop-pass.kits.items (_ ∷ []) in
    let said : c.is_for.result ≡ true = (search rules) in
    let it = c.is_for.ensures said in
    let fits : IsFor 1 c.in-Some-pop.buffer (pass_view c.in-Some.pass) = record {
      of = last.0.1 ∙ ap (λ (s : Shape). Some s) (c.requires.shape ∙ ap (shape_in 1) (sym it.1));
      rank = sym c.rank.ensures.rank ∙ sym it.0;
    } in
    let count = I.count in let own = last.1 in record {
      count = omega arith;
      passes = rest_placed (λ i p. IsOf p c.args.lead.now × ((pass_view p).rank ≡ i)) _ _ _ c.in-Some.ensures.items I.passes;
      kits = placed (λ i k. (k.lead.now ≡ c.args.lead.now) × IsOf k.pass c.args.lead.now × (k.buffer.state ≡ Exchanged) × IsFor 1 k.buffer (pass_view k.pass) × ((pass_view k.pass).rank + i + 1 ≡ n)) _ _ _ c.in_ok-push.ensures.items I.kits
          (refl, last.0, it.2, fits, omega arith);
    }
