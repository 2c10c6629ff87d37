use Rattle.std.proofs.Common.{◌≡◌, ℕ, [], ◌∷◌, length, length-append, ap, sym, ◌∙◌, subst, arith}
use mathlib.Core.Option.{some}
use lib.ListN.{get_elem?}
use Rattle.bcl_phase.proofs.Zips.{zip_long, zip_at, all_at}
use Rattle.bcl_phase.proofs.Returns.{placed, last_placed, rest_placed}
use Rattle.bcl_phase.specs.Deals.{view, IsIn}
use Rattle.bcl_map.proofs.tutorial.look_up.Goals as goal

pub superstep_all-requires-clause-ready : goal.superstep_all-requires-clause-ready
superstep_all-requires-clause-ready g c κs within =
    let ready : (i : ℕ) (k : _) → get_elem? c.in_ok-kits.kits.items i ≡ some k → IsIn k.pass.pass k.lead.now.lead = λ i k at. let it = c.in_ok-kits.ensures.kits i k at in subst (λ lead. IsIn k.pass.pass lead.lead) (sym it.0) it.1 in
    all_at _ c.in_ok-kits.kits.items ready

pub passes_of-requires : goal.passes_of-requires
passes_of-requires g c = record {
  count = zip_long _ c.in_ok-kits.kits.items _ c.superstep_all.ensures.steps ∙ (c.in_ok-kits.ensures.all ∙ c.in_ok-lead.ensures.begins.begins.all.count);
  kits = λ i k at. let was = zip_at _ c.in_ok-kits.kits.items _ c.superstep_all.ensures.steps i k at in let it = c.in_ok-kits.ensures.kits i was.0 was.1 in
      let same = zip_long _ c.in_ok-kits.kits.items _ c.superstep_all.ensures.steps in let all = c.in_ok-kits.ensures.all in let rank = was.2.2 in let turn = it.2 in
      (subst (λ lead. IsIn k.pass.pass lead.lead) it.0 was.2.1, omega arith);
}

pub find-requires-clause-of : goal.find-requires-clause-of
find-requires-clause-of g c κs = (last_placed (λ i p. IsIn p.pass c.in_ok-lead-2.lead.lead × ((view p.pass).rank ≡ i)) _ _ _ c.in-Some.ensures.items c.in_ok-lead-2.ensures.turns.begins.all.of).0

pub end-requires : goal.end-requires
end-requires g c = record {
  all = let all = c.in_ok-lead-2.ensures.turns.begins.all in let last = last_placed (λ i p. IsIn p.pass c.in_ok-lead-2.lead.lead × ((view p.pass).rank ≡ i)) _ _ _ c.in-Some.ensures.items all.of in record {
    count = ap length c.in_ok-push.ensures.items ∙ (length-append _ (_ ∷ []) ∙ (sym (ap length c.in-Some.ensures.items ∙ length-append _ (_ ∷ [])) ∙ all.count));
    of = placed (λ i p. IsIn p.pass c.in_ok-lead-2.lead.lead × ((view p.pass).rank ≡ i)) _ _ _ c.in_ok-push.ensures.items (rest_placed (λ i p. IsIn p.pass c.in_ok-lead-2.lead.lead × ((view p.pass).rank ≡ i)) _ _ _ c.in-Some.ensures.items all.of)
        (c.find-2.ensures.of, c.find-2.ensures.stands.same.same_rank ∙ (c.find.ensures.stands.same.same_rank ∙ last.1));
  };
}
