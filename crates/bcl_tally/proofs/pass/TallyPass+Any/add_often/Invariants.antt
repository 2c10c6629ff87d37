use Rattle.bcl_phase.specs.Parts.{lead_key}
use Rattle.bcl_tally.specs.Calls.{Goes}
use Rattle.bcl_tally.specs.Parts.{pass_view, IsOf}
use Rattle.bcl_tally.proofs.pass.TallyPass+Any.add_often.Given as goal

abbrev pub invariant-loop : goal.invariant-loop
invariant-loop l = record {
  goes : Goes (lead_key l.lead) (pass_view l.initial.self) (pass_view l.self);
  of : IsOf l.self l.lead;
}
