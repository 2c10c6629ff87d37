use Rattle.bcl_phase.specs.Parts.{lead_key}
use Rattle.bcl_phase.proofs.Calls.{goes_trans, stands_goes}
use Rattle.bcl_tally.specs.Parts.{pass_view}
use Rattle.bcl_tally.specs.Tally.{ranks, start, next, permits}
use Rattle.bcl_tally.proofs.pass.TallyPass+Any.add_often.Goals as goal

pub loop-preserved : goal.loop-preserved
loop-preserved c = let k = lead_key c.args.lead.now in let more = c.add.ensures in record {
  goes = goes_trans ranks permits k (pass_view c.args.self.now) (pass_view c.loop.self) (pass_view c.add.new.self) c.loop.invariant.goes (stands_goes ranks start next permits k (pass_view c.loop.self) (pass_view c.add.new.self) _ more.stands);
  of = more.of;
}
