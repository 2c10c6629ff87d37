use Rattle.bcl_event.specs.declared.array.ArrayCall.TheVariants.{FetchMin}
use Rattle.bcl_event.specs.declared.array.ArrayReply.TheVariants.{Was}
use Rattle.bcl_phase.specs.Views.{atomic}
use Rattle.bcl_phase.specs.Parts.{lead_key, pass_view}
use Rattle.bcl_phase.proofs.Calls.{stands_one}
use Rattle.bcl_darray.specs.Array.{ranks, start, next, permits}
use Rattle.bcl_darray.proofs.Atomics.{lessens_at}
use Rattle.bcl_darray.specs.Ranks.{at_rest}
use Rattle.bcl_darray.proofs.any.ArrayPass+Any+u64.fetch_min.Goals as goal

pub fetch_min-requires-clause-step : goal.fetch_min-requires-clause-step
fetch_min-requires-clause-step c = let pass = c.args.self.now in let v = pass_view pass.pass.pass in
    lessens_at (lead_key c.args.lead.now.lead) v.promise v.rank c.args.index pass.pass.pass.pass.1 c.requires.within _ v.note c.number-spot.ensures.word (at_rest _ pass.pass.idle) c.args.n

pub returns-clause-stands : goal.returns-clause-stands
returns-clause-stands c = let step = c.fetch_min.ensures in
    stands_one ranks start next permits (lead_key c.args.lead.now.lead) atomic (pass_view c.args.self.now.pass.pass) (pass_view c.fetch_min.new.self) _ c.fetch_min.result (FetchMin c.args.index c.args.n) (Was c.fetch_min.result) step.took step.told step.told.fact.one step.told.fact.answer
