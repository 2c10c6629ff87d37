use Rattle.std.proofs.Common.{All, sym, ◌∙◌, subst, arith}
use Rattle.bcl_words.specs.Numbers.{one_word}
use Rattle.bcl_phase.proofs.Zips.{zip_long, zip_at, all_at}
use Rattle.bcl_map.specs.Calls.{IsMine}
use Rattle.bcl_phase.specs.Deals.{view, IsIn}
use Rattle.map_bench.proofs.ranked.run.Goals as goal

pub superstep_all-requires-clause-ready : goal.superstep_all-requires-clause-ready
superstep_all-requires-clause-ready g c κs within = all_at (λ k. IsIn k.pass.pass k.lead.now.lead × All (λ pair. IsMine (view k.pass.pass) (one_word pair.0)) k.pairs.items) c.in_ok-kits.kits.items (λ i k at. let it = c.in_ok-kits.ensures.kits i k at in
    (subst (λ lead. IsIn k.pass.pass lead.lead) (sym it.0) it.1, it.3))

pub passes_of-requires-clause-kits : goal.passes_of-requires-clause-kits
passes_of-requires-clause-kits g c i k at = let was = zip_at _ c.in_ok-kits.kits.items _ c.superstep_all.ensures.steps i k at in let it = c.in_ok-kits.ensures.kits i was.0 was.1 in
    let same = zip_long _ c.in_ok-kits.kits.items _ c.superstep_all.ensures.steps in let all = c.in_ok-kits.ensures.all in let rank = was.2.2 in let turn = it.2 in
    (subst (λ lead. IsIn k.pass.pass lead.lead) it.0 was.2.1, omega arith)

pub passes_of-requires-clause-count : goal.passes_of-requires-clause-count
passes_of-requires-clause-count g c = zip_long _ c.in_ok-kits.kits.items _ c.superstep_all.ensures.steps ∙ (c.in_ok-kits.ensures.all ∙ c.in_ok-lead.ensures.begins.begins.all.count)

pub superstep_all-requires-2-clause-ready : goal.superstep_all-requires-2-clause-ready
superstep_all-requires-2-clause-ready g c κs within = all_at (λ k. IsIn k.pass.pass k.lead.now.lead) c.in_ok-kits-2.kits.items c.in_ok-kits-2.ensures.kits
