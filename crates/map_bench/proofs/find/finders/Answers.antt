use Rattle.std.proofs.Common.{◌≡◌}
use Rattle.bcl_phase.proofs.Returns.{placed, last_placed, rest_placed}
use Rattle.bcl_phase.specs.Deals.{view, IsIn}
use Rattle.map_bench.proofs.find.finders.Goals as goal

pub loop-pass-preserved : goal.loop-pass-preserved
loop-pass-preserved g c = let I = c.loop-pass.invariant in
    let last = last_placed (λ i p. IsIn p.pass c.args.lead.now.lead × ((view p.pass).rank ≡ i)) _ _ _ c.in-Some.ensures.items I.passes in record {
      passes = rest_placed (λ i p. IsIn p.pass c.args.lead.now.lead × ((view p.pass).rank ≡ i)) _ _ _ c.in-Some.ensures.items I.passes;
      kits = placed (λ i k. IsIn k.pass.pass k.lead.now.lead) _ _ _ c.in_ok-push.ensures.items I.kits last.0;
    }
