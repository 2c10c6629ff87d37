use Rattle.std.proofs.Common.{◌≡◌, ◌∙◌}
use Rattle.bcl_phase.proofs.Returns.{placed}
use Rattle.bcl_phase.specs.Deals.{view, IsIn}
use Rattle.bcl_bloom.proofs.tests.last_calls.Goals as goal

pub returns-clause-of : goal.returns-clause-of
returns-clause-of c = placed (λ i p. IsIn p.pass c.args.lead.now.lead × ((view p.pass).rank ≡ i)) _ _ _ c.in_ok-push.ensures.items c.last_pass.ensures.of (c.calls-answers.ensures.of, c.calls-answers.ensures.rank ∙ c.in-Some.ensures.last.1)
