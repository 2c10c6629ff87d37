use Rattle.bcl_segment.specs.Parts.{IsSeatOf}
use Rattle.bcl_segment.proofs.tests.add.Given as goal

abbrev pub invariant-loop : goal.invariant-loop
invariant-loop l = IsSeatOf l.seat l.segments
