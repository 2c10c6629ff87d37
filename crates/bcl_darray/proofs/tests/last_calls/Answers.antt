use Rattle.std.proofs.Common.{◌≡◌, ◌∙◌}
use Rattle.bcl_phase.proofs.Returns.{placed, last_placed, rest_placed}
use Rattle.bcl_darray.specs.Parts.{pass_view, IsOf}
use Rattle.bcl_darray.proofs.tests.last_calls.Goals as goal

pub calls-answers-requires-clause-of : goal.calls-answers-requires-clause-of
calls-answers-requires-clause-of c = (last_placed (λ i p. IsOf p c.args.lead.now × ((pass_view p).rank ≡ i)) _ _ _ c.in-Some.ensures.items c.requires.of).0

pub returns-clause-of : goal.returns-clause-of
returns-clause-of c = let last = last_placed (λ i p. IsOf p c.args.lead.now × ((pass_view p).rank ≡ i)) _ _ _ c.in-Some.ensures.items c.requires.of in
    placed (λ i p. IsOf p c.args.lead.now × ((pass_view p).rank ≡ i)) _ _ _ c.in_ok-push.ensures.items (rest_placed (λ i p. IsOf p c.args.lead.now × ((pass_view p).rank ≡ i)) _ _ _ c.in-Some.ensures.items c.requires.of)
    (c.calls-answers.ensures.of, c.calls-answers.ensures.rank ∙ last.1)
