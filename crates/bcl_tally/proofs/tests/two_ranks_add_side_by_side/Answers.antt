use Rattle.std.proofs.Common.{◌≡◌, ℕ, ◌<◌, length, refl, sym, ◌∙◌, subst, arith}
use Rattle.bcl_phase.specs.Parts.{lead_key}
use Rattle.bcl_tally.specs.declared.adder.Adder.{Adder}
use Rattle.bcl_tally.specs.Parts.{IsOf}
use Rattle.bcl_tally.proofs.Pairs.{emptied, both, at_first, at_second, all_of_two}
use Rattle.bcl_tally.proofs.tests.two_ranks_add_side_by_side.Goals as goal

pub superstep-requires-clause-ready : goal.superstep-requires-clause-ready
superstep-requires-clause-ready g c κs = let all = c.in-Ok.ensures.begins.begins.all in
    let key : lead_key c.in-Ok.lead ≡ 2 = c.in-Ok.ensures.begins.same.1 ∙ c.in_ok-home.ensures.key in
    let two : length c.in-Ok.passes.items ≡ 2 = all.count ∙ ((λ i. (c.in-Ok.lead.laid.as_layout i).ranks) ∙ key) in
    let none = emptied _ _ _ _ _ c.in-Some.ensures.items c.in-Some-pop.ensures.items two in
    let l = both _ _ _ _ _ c.in-Some.ensures.items c.in-Some-pop.ensures.items none in
    let some_rank : 0 < lead_key c.in-Ok.lead = subst (λ (z : ℕ). 0 < z) (sym key) (omega arith) in
    all_of_two (λ (k : Adder). (0 < lead_key k.lead.now) × IsOf k.pass k.lead.now) _ _ _ refl (some_rank, (all.of 0 _ (at_first _ _ _ l)).0) (some_rank, (all.of 1 _ (at_second _ _ _ l)).0)
