use Rattle.std.proofs.Common.{◌≡◌, sym, ◌∙◌}
use Rattle.bcl_phase.proofs.Returns.{placed}
use Rattle.bcl_phase.specs.Deals.{view, IsIn}
use Rattle.bcl_bloom.proofs.tests.+finders.Goals as goal

pub returns-clause-of : goal.returns-clause-of
returns-clause-of t c = placed (λ i p. IsIn p.pass c.args.lead.now.lead × ((view p.pass).rank ≡ i)) _ _ _ c.in_ok-push.ensures.items c.in_ok-found.ensures.of
    (c.find-here.ensures.of, c.find-here.ensures.stands.same.same_rank ∙ (c.in-Some.ensures.last.1 ∙ sym c.in_ok-found.ensures.all))
