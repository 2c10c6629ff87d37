use Rattle.std.proofs.Common.{rules, ◌≡◌, ◌<◌, sym, ap, ◌∙◌, subst, arith}
use Rattle.bcl_phase.proofs.Returns.{placed, last_placed, rest_placed}
use Rattle.bcl_phase.proofs.Zips.{zip_long, zip_at, all_at}
use Rattle.bcl_darray.specs.declared.tutorial.Voter.{Voter}
use Rattle.bcl_darray.specs.Array.{size}
use Rattle.bcl_darray.specs.Parts.{lead_key, pass_view, IsOf}
use Rattle.bcl_darray.proofs.tutorial.votes_are_counted_side_by_side.Goals as goal

pub superstep_all-requires-clause-ready : goal.superstep_all-requires-clause-ready
superstep_all-requires-clause-ready g c κs = let four : size (lead_key c.in-Ok.lead) ≡ 4 = ap size (c.in-Ok.ensures.begins.same.1 ∙ c.in_ok-home.ensures.key) in
    all_at (λ (k : Voter). IsOf k.pass k.lead.now × (k.candidate < size (lead_key k.lead.now))) c.in_ok-kits.kits.items (λ i k at. let it = c.in_ok-kits.ensures.kits i k at in
    (subst (λ lead. IsOf k.pass lead) (sym it.0) it.1, subst (λ lead. k.candidate < size (lead_key lead)) (sym it.0) (let low = it.2 in omega arith)))

pub passes_of-requires : goal.passes_of-requires
passes_of-requires g c = record {
  count = zip_long _ c.in_ok-kits.kits.items _ c.superstep_all.ensures.steps ∙ (c.in_ok-kits.ensures.all ∙ c.in-Ok.ensures.begins.begins.all.count);
  kits = λ i k at. let was = zip_at _ c.in_ok-kits.kits.items _ c.superstep_all.ensures.steps i k at in let it = c.in_ok-kits.ensures.kits i was.0 was.1 in
      let same = zip_long _ c.in_ok-kits.kits.items _ c.superstep_all.ensures.steps in let all = c.in_ok-kits.ensures.all in let rank = was.2.2 in let turn = it.3 in
      (subst (λ lead. IsOf k.pass lead) it.0 was.2.1, omega arith);
}

pub read-requires-clause-of : goal.read-requires-clause-of
read-requires-clause-of g c κs = (last_placed (λ i p. IsOf p c.in-Ok-turn.lead × ((pass_view p).rank ≡ i)) _ _ _ c.in-Some.ensures.items c.in-Ok-turn.ensures.turns.begins.all.of).0

pub end-requires : goal.end-requires
end-requires g c = let all = c.in-Ok-turn.ensures.turns.begins.all in record {
  all = record {
    count = search rules;
    of = placed (λ i p. IsOf p c.in-Ok-turn.lead × ((pass_view p).rank ≡ i)) _ _ _ c.in_ok-push.ensures.items (rest_placed (λ i p. IsOf p c.in-Ok-turn.lead × ((pass_view p).rank ≡ i)) _ _ _ c.in-Some.ensures.items all.of)
        (c.read-2.ensures.of, c.read-2.ensures.stands.same.same_rank ∙ (c.read.ensures.stands.same.same_rank ∙ (last_placed (λ i p. IsOf p c.in-Ok-turn.lead × ((pass_view p).rank ≡ i)) _ _ _ c.in-Some.ensures.items all.of).1));
  };
}
