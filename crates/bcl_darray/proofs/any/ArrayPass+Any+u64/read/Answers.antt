use Rattle.bcl_words.specs.Numbers.{one_word}
use Rattle.bcl_event.specs.declared.array.ArrayCall.TheVariants.{Read}
use Rattle.bcl_event.specs.declared.array.ArrayReply.TheVariants.{Value}
use Rattle.bcl_phase.specs.Views.{get}
use Rattle.bcl_phase.specs.Parts.{lead_key, pass_view}
use Rattle.bcl_phase.proofs.Calls.{stands_one}
use Rattle.bcl_darray.specs.Array.{ranks, start, next, permits}
use Rattle.bcl_darray.proofs.Atomics.{loads_at}
use Rattle.bcl_darray.specs.Ranks.{at_rest}
use Rattle.bcl_darray.proofs.any.ArrayPass+Any+u64.read.Goals as goal

pub get-requires-clause-step : goal.get-requires-clause-step
get-requires-clause-step c = let pass = c.args.self.now in let v = pass_view pass.pass.pass in
    loads_at (lead_key c.args.lead.now.lead) v.promise v.rank c.args.index pass.pass.pass.pass.1 c.requires.within _ v.note c.number-spot.ensures.word (at_rest _ pass.pass.idle)

pub returns-clause-stands : goal.returns-clause-stands
returns-clause-stands c = let step = c.get.ensures in
    stands_one ranks start next permits (lead_key c.args.lead.now.lead) get (pass_view c.args.self.now.pass.pass) (pass_view c.get.new.self) _ c.get.result (Read c.args.index) (Value (one_word c.get.result)) step.took step.told step.told.fact.one step.told.fact.answer
