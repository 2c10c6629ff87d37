use Rattle.std.proofs.Common.{ℕ, refl, subst, [], ◌∷◌}
use Rattle.bcl_event.specs.History.{event}
use Rattle.bcl_phase.specs.Parts.{lead_key}
use Rattle.bcl_phase.proofs.Calls.{stands_ran, ran_trans}
use Rattle.bcl_tally.specs.declared.tally.Call.TheVariants.{Add}
use Rattle.bcl_tally.specs.declared.tally.Reply.TheVariants.{Was}
use Rattle.bcl_tally.specs.Parts.{pass_view}
use Rattle.bcl_tally.specs.Tally.{ranks, start, next, permits}
use Rattle.bcl_tally.specs.Calls.{Ran}
use Rattle.bcl_tally.proofs.adder.AdderKit.part.Goals as goal

pub returns : goal.returns
returns c = let it = c.args.self.now in let k = lead_key it.lead.now in
    let u = pass_view it.pass in let v = pass_view c.add.new.self in let w = pass_view c.add-2.new.self in
    let one : Ran k u v (event u.rank (Add 0 it.n) (Was c.add.result) ∷ []) = stands_ran ranks start next permits k u v _ c.add.ensures.stands in
    let two : Ran k v w (event v.rank (Add c.rank-own.result it.n) (Was c.add-2.result) ∷ []) = stands_ran ranks start next permits k v w _ c.add-2.ensures.stands in
    let two' : Ran k v w (event u.rank (Add u.rank it.n) (Was c.add-2.result) ∷ []) =
    subst (λ (z : ℕ × ℕ). Ran k v w (event z.0 (Add z.1 it.n) (Was c.add-2.result) ∷ [])) (λ i. (c.add.ensures.stands.same.same_rank i, c.rank-own.ensures.rank i)) two in
    record { step = (refl, c.add-2.ensures.of, (c.add.result, c.add-2.result, ran_trans ranks start next permits k u v w _ _ one two')) }
