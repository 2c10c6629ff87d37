use Rattle.std.proofs.Common.{◌≡◌}
use Rattle.bcl_phase.proofs.Returns.{last_placed, rest_placed}
use Rattle.bcl_phase.specs.Deals.{view, IsIn}
use Rattle.bcl_bloom.proofs.tests.last_pass.Goals as goal

pub returns-clause-of : goal.returns-clause-of
returns-clause-of c = rest_placed (λ i p. IsIn p.pass c.args.lead.now.lead × ((view p.pass).rank ≡ i)) _ _ _ c.in-Some.ensures.items c.requires.of

pub returns-clause-last : goal.returns-clause-last
returns-clause-last c = last_placed (λ i p. IsIn p.pass c.args.lead.now.lead × ((view p.pass).rank ≡ i)) _ _ _ c.in-Some.ensures.items c.requires.of
