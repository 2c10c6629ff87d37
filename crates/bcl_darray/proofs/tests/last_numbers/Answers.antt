use Rattle.std.proofs.Common.{◌≡◌, ◌∙◌}
use Rattle.bcl_phase.proofs.Returns.{placed, last_placed, rest_placed}
use Rattle.bcl_darray.specs.Parts.{pass_view, IsOf}
use Rattle.bcl_darray.proofs.tests.last_numbers.Goals as goal

pub numbers-found-requires-clause-of : goal.numbers-found-requires-clause-of
numbers-found-requires-clause-of c = (last_placed (λ i p. IsOf p c.args.lead.now × ((pass_view p).rank ≡ i)) _ _ _ c.in-Some.ensures.items c.requires.of).0

pub returns-clause-of : goal.returns-clause-of
returns-clause-of c = let last = last_placed (λ i p. IsOf p c.args.lead.now × ((pass_view p).rank ≡ i)) _ _ _ c.in-Some.ensures.items c.requires.of in
    placed (λ i p. IsOf p c.args.lead.now × ((pass_view p).rank ≡ i)) _ _ _ c.in_ok-push.ensures.items (rest_placed (λ i p. IsOf p c.args.lead.now × ((pass_view p).rank ≡ i)) _ _ _ c.in-Some.ensures.items c.requires.of)
    (c.numbers-found.ensures.of, c.numbers-found.ensures.rank ∙ last.1)
