use Rattle.std.proofs.Common.{◌≡◌, ◌+◌, [], ◌∷◌, reverse, length, length-append, ap, sym, ◌∙◌, subst, arith}
use Rattle.std.proofs.lemmas.List.{reverse-append}
use Rattle.bcl_phase.specs.Deals.{view, IsIn}
use Rattle.bcl_phase.proofs.Returns.{placed, last_placed, rest_placed, told_more}
use Rattle.bcl_phase.proofs.carries.passes_of.Goals as goal

pub loop-kit-preserved : goal.loop-kit-preserved
loop-kit-preserved g c = let I = c.loop-kit.invariant in let n = length c.args.kits.items in let pass = g.K.Carries.pass in let inner = g.W.Wraps.inner in
    let last = last_placed (λ i k. IsIn (inner (pass k)) c.args.lead.now × ((view (inner (pass k))).rank + i + 1 ≡ n)) _ _ _ c.in-Some.ensures.items I.kits in
    let fewer : length c.loop-kit.kits.items ≡ _ + 1 = ap length c.in-Some.ensures.items ∙ length-append _ (c.in-Some.kit ∷ []) in
    let more : length _ ≡ length c.loop-kit.passes.items + 1 = ap length c.in-Ok.ensures.items ∙ length-append c.loop-kit.passes.items (_ ∷ []) in
    let count = I.count in let own = last.1 in record {
      count = omega arith;
      room = let room = I.room in let same = c.in-Ok.ensures.capacity in omega arith;
      carried = told_more pass c.args.kits.items _ _ c.in-Some.kit _ _ c.in-Some.ensures.items I.carried
          (ap reverse c.in-Ok.ensures.items ∙ (reverse-append c.loop-kit.passes.items (_ ∷ []) ∙ ap (λ w. w ∷ reverse c.loop-kit.passes.items) c.into_pass.ensures.pass));
      kits = rest_placed (λ i k. IsIn (inner (pass k)) c.args.lead.now × ((view (inner (pass k))).rank + i + 1 ≡ n)) _ _ _ c.in-Some.ensures.items I.kits;
      passes = placed (λ i w. IsIn (inner w) c.args.lead.now × ((view (inner w)).rank ≡ i)) _ _ _ c.in-Ok.ensures.items I.passes
          (subst (λ w. IsIn (inner w) c.args.lead.now × ((view (inner w)).rank ≡ length c.loop-kit.passes.items)) (sym c.into_pass.ensures.pass) (last.0, omega arith));
    }
