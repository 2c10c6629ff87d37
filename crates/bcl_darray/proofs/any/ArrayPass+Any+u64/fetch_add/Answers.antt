use Rattle.bcl_event.specs.declared.array.ArrayCall.TheVariants.{FetchAdd}
use Rattle.bcl_event.specs.declared.array.ArrayReply.TheVariants.{Was}
use Rattle.bcl_phase.specs.Views.{atomic}
use Rattle.bcl_phase.specs.Parts.{lead_key, pass_view}
use Rattle.bcl_phase.proofs.Calls.{stands_one}
use Rattle.bcl_darray.specs.Array.{ranks, start, next, permits}
use Rattle.bcl_darray.proofs.Atomics.{adds_at}
use Rattle.bcl_darray.specs.Ranks.{at_rest}
use Rattle.bcl_darray.proofs.any.ArrayPass+Any+u64.fetch_add.Goals as goal

pub fetch_add-requires-clause-step : goal.fetch_add-requires-clause-step
fetch_add-requires-clause-step c = let pass = c.args.self.now in let v = pass_view pass.pass.pass in
    adds_at (lead_key c.args.lead.now.lead) v.promise v.rank c.args.index pass.pass.pass.pass.1 c.requires.within _ v.note c.number-spot.ensures.word (at_rest _ pass.pass.idle) c.args.n

pub returns-clause-stands : goal.returns-clause-stands
returns-clause-stands c = let step = c.fetch_add.ensures in
    stands_one ranks start next permits (lead_key c.args.lead.now.lead) atomic (pass_view c.args.self.now.pass.pass) (pass_view c.fetch_add.new.self) _ c.fetch_add.result (FetchAdd c.args.index c.args.n) (Was c.fetch_add.result) step.took step.told step.told.fact.one step.told.fact.answer
