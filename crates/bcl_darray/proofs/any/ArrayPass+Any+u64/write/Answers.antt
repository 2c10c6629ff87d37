use Rattle.bcl_words.specs.Numbers.{one_word}
use Rattle.bcl_event.specs.declared.array.ArrayCall.TheVariants.{Write}
use Rattle.bcl_event.specs.declared.array.ArrayReply.TheVariants.{Done}
use Rattle.bcl_phase.specs.Views.{put}
use Rattle.bcl_phase.specs.Parts.{lead_key, pass_view}
use Rattle.bcl_phase.proofs.Calls.{stands_one}
use Rattle.bcl_darray.specs.Array.{ranks, start, next, permits}
use Rattle.bcl_darray.proofs.Atomics.{stores_at}
use Rattle.bcl_darray.specs.Ranks.{at_rest}
use Rattle.bcl_darray.proofs.any.ArrayPass+Any+u64.write.Goals as goal

pub put-requires-clause-step : goal.put-requires-clause-step
put-requires-clause-step c = let pass = c.args.self.now in let v = pass_view pass.pass.pass in
    stores_at (lead_key c.args.lead.now.lead) v.promise v.rank c.args.index pass.pass.pass.pass.1 c.requires.within _ v.note c.number-spot.ensures.word (at_rest _ pass.pass.idle) c.args.value c.ranges.value.fits

pub returns-clause-stands : goal.returns-clause-stands
returns-clause-stands c = let step = c.put.ensures in
    stands_one ranks start next permits (lead_key c.args.lead.now.lead) put (pass_view c.args.self.now.pass.pass) (pass_view c.put.new.self) _ c.args.value (Write c.args.index (one_word c.args.value)) (Done) step.took step.told step.told.fact.one step.told.fact.answer
