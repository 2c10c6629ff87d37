use Rattle.std.proofs.Common.{◌≡◌}
use Rattle.bcl_map.specs.Parts.{pass_view, IsOf}
use Rattle.bcl_map.proofs.tests.merge.SummerKit.part.Given as goal

abbrev pub invariant-loop-pair : goal.invariant-loop-pair
invariant-loop-pair l = record {
  lead : l.self.lead ≡ l.fn.self.lead;
  of : IsOf l.self.pass l.self.lead.now;
  rank : (pass_view l.self.pass).rank ≡ (pass_view l.fn.self.pass).rank;
}
