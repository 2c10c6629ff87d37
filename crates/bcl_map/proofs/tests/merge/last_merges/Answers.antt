use Rattle.std.proofs.Common.{◌≡◌, ◌∙◌}
use Rattle.bcl_phase.proofs.Returns.{placed, last_placed, rest_placed}
use Rattle.bcl_map.specs.Parts.{pass_view, IsOf}
use Rattle.bcl_map.proofs.tests.merge.last_merges.Goals as goal

pub merge-merged-requires-clause-of : goal.merge-merged-requires-clause-of
merge-merged-requires-clause-of g c κs within = (last_placed (λ i p. IsOf p c.args.lead.now × ((pass_view p).rank ≡ i)) _ _ _ c.in-Some.ensures.items c.requires.of).0

pub returns-clause-of : goal.returns-clause-of
returns-clause-of g c = let last = last_placed (λ i p. IsOf p c.args.lead.now × ((pass_view p).rank ≡ i)) _ _ _ c.in-Some.ensures.items c.requires.of in
    placed (λ i p. IsOf p c.args.lead.now × ((pass_view p).rank ≡ i)) _ _ _ c.in_ok-push.ensures.items (rest_placed (λ i p. IsOf p c.args.lead.now × ((pass_view p).rank ≡ i)) _ _ _ c.in-Some.ensures.items c.requires.of)
    (c.merge-merged.ensures.of, c.merge-merged.ensures.stands.same.same_rank ∙ last.1)
