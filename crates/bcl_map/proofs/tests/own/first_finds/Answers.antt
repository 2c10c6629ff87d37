use Rattle.std.proofs.Common.{◌≡◌, ◌∙◌, [], ◌∷◌, length, length-append, ap, sym}
use Rattle.bcl_phase.proofs.Returns.{placed, last_placed, rest_placed}
use Rattle.bcl_map.specs.Parts.{pass_view, IsOf}
use Rattle.bcl_map.proofs.tests.own.first_finds.Goals as goal

pub find-found-requires-clause-of : goal.find-found-requires-clause-of
find-found-requires-clause-of g c κs within = let rest = rest_placed (λ i p. IsOf p c.args.lead.now × ((pass_view p).rank ≡ i)) _ _ _ c.in-Some.ensures.items c.requires.of in
    (last_placed (λ i p. IsOf p c.args.lead.now × ((pass_view p).rank ≡ i)) _ _ _ c.in-Some-pop.ensures.items rest).0

pub returns-clause-of : goal.returns-clause-of
returns-clause-of g c = let last = last_placed (λ i p. IsOf p c.args.lead.now × ((pass_view p).rank ≡ i)) _ _ _ c.in-Some.ensures.items c.requires.of in
    let rest = rest_placed (λ i p. IsOf p c.args.lead.now × ((pass_view p).rank ≡ i)) _ _ _ c.in-Some.ensures.items c.requires.of in
    let first = last_placed (λ i p. IsOf p c.args.lead.now × ((pass_view p).rank ≡ i)) _ _ _ c.in-Some-pop.ensures.items rest in
    let none = rest_placed (λ i p. IsOf p c.args.lead.now × ((pass_view p).rank ≡ i)) _ _ _ c.in-Some-pop.ensures.items rest in
    let one = placed (λ i p. IsOf p c.args.lead.now × ((pass_view p).rank ≡ i)) _ _ _ c.in_ok-push.ensures.items none (c.find-found.ensures.of, c.find-found.ensures.stands.same.same_rank ∙ first.1) in
    let fewer = ap length c.in-Some-pop.ensures.items ∙ length-append _ (_ ∷ []) in
    let more = ap length c.in_ok-push.ensures.items ∙ length-append _ (_ ∷ []) in
    placed (λ i p. IsOf p c.args.lead.now × ((pass_view p).rank ≡ i)) _ _ _ c.in_ok-push-2.ensures.items one (last.0, last.1 ∙ (fewer ∙ sym more))
