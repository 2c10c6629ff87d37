use Rattle.bcl_phase.specs.Views.{atomic}
use Rattle.bcl_phase.specs.Parts.{lead_key, pass_view}
use Rattle.bcl_phase.proofs.Calls.{stands_one}
use Rattle.bcl_tally.specs.declared.tally.Call.TheVariants.{Add}
use Rattle.bcl_tally.specs.declared.tally.Reply.TheVariants.{Was}
use Rattle.bcl_tally.specs.Tally.{ranks, start, next, permits}
use Rattle.bcl_tally.proofs.Fits.{at_rest, adds_at}
use Rattle.bcl_tally.proofs.pass.TallyPass+Any.add.Goals as goal

pub fetch_add-requires-clause-step : goal.fetch_add-requires-clause-step
fetch_add-requires-clause-step c = let lead = c.args.lead.now in let v = pass_view c.args.self.now.pass.pass in
    adds_at (lead_key lead) v.promise v.rank c.args.place c.args.n _ v.note c.number_of.ensures.word (at_rest _ c.args.self.now.pass.idle) c.args.self.now.pass.pass.pass.1

pub returns-clause-stands : goal.returns-clause-stands
returns-clause-stands c = let step = c.fetch_add.ensures in
    stands_one ranks start next permits (lead_key c.args.lead.now) atomic (pass_view c.args.self.now.pass.pass) (pass_view c.fetch_add.new.self) _ c.fetch_add.result (Add c.args.place c.args.n) (Was c.fetch_add.result) step.took step.told step.told.fact.0 step.told.fact.1

pub returns-clause-cost : goal.returns-clause-cost
returns-clause-cost c = c.fetch_add.ensures.took.atomics_rise
