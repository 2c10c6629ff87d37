use Rattle.std.proofs.Common.{◌≡◌, sym, ◌∙◌}
use Rattle.bcl_phase.proofs.Returns.{placed}
use Rattle.bcl_phase.specs.Deals.{view, IsIn}
use Rattle.bcl_bloom.proofs.tests.+each_inserts.Goals as goal

pub returns-clause-of : goal.returns-clause-of
returns-clause-of t c = placed (λ i p. IsIn p.pass c.args.lead.now.lead × ((view p.pass).rank ≡ i)) _ _ _ c.in_ok-push.ensures.items c.in_ok-each_inserts.ensures.of
    (c.insert.ensures.of, c.insert.ensures.stands.same.same_rank ∙ (c.in-Some.ensures.last.1 ∙ sym c.in_ok-each_inserts.ensures.all))
