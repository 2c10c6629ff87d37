use Rattle.std.proofs.Common.{ℕ, ◌∙◌, sym, ap, subst, [], ◌∷◌, ◌+◌}
use Rattle.bcl_event.specs.History.{event}
use Rattle.bcl_phase.specs.Views.{get, put}
use Rattle.bcl_phase.specs.Stands.{Still}
use Rattle.bcl_phase.specs.Parts.{lead_key, pass_view}
use Rattle.bcl_phase.proofs.Calls.{stands_one, still_by, stands_behind}
use Rattle.bcl_tally.specs.declared.tally.Call.TheVariants.{Swap}
use Rattle.bcl_tally.specs.declared.tally.Reply.TheVariants.{Was}
use Rattle.bcl_tally.specs.Tally.{ranks, start, next, permits, is_rest}
use Rattle.bcl_phase.specs.Stands as phase
use Rattle.bcl_tally.proofs.Fits.{at_rest, gets_at, puts_at}
use Rattle.bcl_tally.proofs.pass.TallyPass+Own.swap.Goals as goal

pub get-old-requires-clause-step : goal.get-old-requires-clause-step
get-old-requires-clause-step c = let lead = c.args.lead.now in let v = pass_view c.args.self.now.pass.pass in
    gets_at (lead_key lead) v.promise v.rank c.rank-place.result _ v.note c.number_of-number.ensures.word (at_rest _ c.args.self.now.pass.idle) c.args.self.now.pass.pass.pass.1 c.rank-place.ensures.rank

pub put-requires-clause-step : goal.put-requires-clause-step
put-requires-clause-step c = let lead = c.args.lead.now in let v = pass_view c.get-old.new.self in let took = c.get-old.ensures.took in
    puts_at (lead_key lead) v.promise v.rank c.rank-place.result c.args.n c.get-old.result _ v.note c.number_of-number.ensures.word c.get-old.ensures.told.fact.1
    (took.same_promise ∙ c.args.self.now.pass.pass.pass.1) (c.rank-place.ensures.rank ∙ sym took.same_rank)

pub returns-clause-stands : goal.returns-clause-stands
returns-clause-stands c = let got = c.get-old.ensures in let done = c.put.ensures in let k = lead_key c.args.lead.now in
    let u = pass_view c.args.self.now.pass.pass in let v = pass_view c.get-old.new.self in let w = pass_view c.put.new.self in
    let quiet : Still u v = still_by ranks start next permits k get u v _ c.get-old.result got.took got.told got.told.fact.0 in
    let made : phase.Stands ranks start next permits k v w (event v.rank (Swap c.rank-place.result c.args.n) (Was c.get-old.result) ∷ []) =
    stands_one ranks start next permits k put v w _ c.args.n (Swap c.rank-place.result c.args.n) (Was c.get-old.result) done.took done.told done.told.fact.0 done.told.fact.1 in
    subst (λ (z : ℕ × ℕ). phase.Stands ranks start next permits k u w (event z.0 (Swap z.1 c.args.n) (Was c.get-old.result) ∷ [])) (λ i. (got.took.same_rank i, c.rank-place.ensures.rank i))
    (stands_behind ranks start next permits k u v w _ quiet made)

pub returns-clause-gets : goal.returns-clause-gets
returns-clause-gets c = c.put.ensures.took.gets_rise ∙ c.get-old.ensures.took.gets_rise

pub returns-clause-puts : goal.returns-clause-puts
returns-clause-puts c = c.put.ensures.took.puts_rise ∙ ap (λ (z : ℕ). z + 1) c.get-old.ensures.took.puts_rise

pub invariant_of-self : goal.invariant_of-self
invariant_of-self c = record { idle = ap is_rest c.put.ensures.told.fact.2 }
