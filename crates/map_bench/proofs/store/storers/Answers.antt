use Rattle.std.proofs.Common.{◌≡◌, ◌+◌, [], ◌∷◌, All, length, length-append, refl, ap, ◌∙◌, arith}
use Rattle.bcl_phase.proofs.Returns.{placed, last_placed, rest_placed}
use Rattle.bcl_map.specs.Calls.{IsMine}
use Rattle.bcl_phase.specs.Deals.{view, IsIn}
use Rattle.map_bench.proofs.store.storers.Goals as goal

pub loop-pass-preserved : goal.loop-pass-preserved
loop-pass-preserved g c = let I = c.loop-pass.invariant in let n = length c.args.passes.items in
    let last = last_placed (λ i p. IsIn p.pass c.args.lead.now.lead × ((view p.pass).rank ≡ i)) _ _ _ c.in-Some.ensures.items I.passes in
    let fewer : length c.loop-pass.passes.items ≡ _ + 1 = ap length c.in-Some.ensures.items ∙ length-append _ (c.in-Some.pass ∷ []) in
    let more : length _ ≡ length c.loop-pass.kits.items + 1 = ap length c.in_ok-push.ensures.items ∙ length-append c.loop-pass.kits.items (_ ∷ []) in
    let count = I.count in let own = last.1 in record {
      count = omega arith;
      passes = rest_placed (λ i p. IsIn p.pass c.args.lead.now.lead × ((view p.pass).rank ≡ i)) _ _ _ c.in-Some.ensures.items I.passes;
      kits = placed (λ i k. (k.lead.now ≡ c.args.lead.now) × IsIn k.pass.pass c.args.lead.now.lead × ((view k.pass.pass).rank + i + 1 ≡ n) × All (λ pair. IsMine (view k.pass.pass) (g.K.Object.words pair.0)) k.pairs.items) _ _ _ c.in_ok-push.ensures.items I.kits (refl, last.0, omega arith, c.in_ok-own.ensures.mine);
    }
