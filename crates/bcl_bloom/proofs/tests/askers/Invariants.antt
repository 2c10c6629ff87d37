use Rattle.std.proofs.Common.{length}
use Rattle.std.specs.List.{All}
use Rattle.bcl_phase.specs.Deals.{IsIn, AreOf}
use Rattle.bcl_bloom.proofs.tests.askers.Given as goal

abbrev pub invariant-loop-pass : goal.invariant-loop-pass
invariant-loop-pass l = record {
  of : AreOf (λ p. p.pass) l.lead.lead l.passes.items;
  ready : All (λ k. IsIn k.pass.pass k.lead.now.lead) l.kits.items;
}

abbrev pub decreases-loop-pass : goal.decreases-loop-pass
decreases-loop-pass l = length l.passes.items
