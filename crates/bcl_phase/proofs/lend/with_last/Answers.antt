use Rattle.std.proofs.Common.{◌≡◌, ◌∙◌}
use Rattle.bcl_phase.specs.Deals.{view, IsIn}
use Rattle.bcl_phase.proofs.Returns.{placed, last_placed, rest_placed}
use Rattle.bcl_phase.proofs.lend.with_last.Goals as goal

pub f-answer-requires : goal.f-answer-requires
f-answer-requires g c = c.requires.ready _ (last_placed (λ i w. IsIn (g.W.Wraps.inner w) c.args.lead.now × ((view (g.W.Wraps.inner w)).rank ≡ i)) _ _ _ c.in-Some.ensures.items c.requires.of).0

pub returns-clause-of : goal.returns-clause-of
returns-clause-of g c = let last = last_placed (λ i w. IsIn (g.W.Wraps.inner w) c.args.lead.now × ((view (g.W.Wraps.inner w)).rank ≡ i)) _ _ _ c.in-Some.ensures.items c.requires.of in
    let kept = c.requires.keeps _ _ _ last.0 c.f-answer.ensures in
    placed (λ i w. IsIn (g.W.Wraps.inner w) c.args.lead.now × ((view (g.W.Wraps.inner w)).rank ≡ i)) _ _ _ c.in-Ok.ensures.items
    (rest_placed (λ i w. IsIn (g.W.Wraps.inner w) c.args.lead.now × ((view (g.W.Wraps.inner w)).rank ≡ i)) _ _ _ c.in-Some.ensures.items c.requires.of) (kept.0, kept.1 ∙ last.1)
