use Rattle.std.proofs.Common.{◌≡◌, ℕ, sym, ◌∙◌, subst, arith}
use mathlib.Core.Option.{some}
use lib.ListN.{get_elem?}
use Rattle.bcl_phase.proofs.Zips.{zip_long, zip_at, all_at}
use Rattle.bcl_map.specs.Parts.{pass_view, IsOf}
use Rattle.bcl_buffer.specs.declared.buffer.State.TheVariants.{Exchanged}
use Rattle.bcl_buffer.specs.Drains.{IsFor}
use Rattle.bcl_buffer.proofs.tests.drain.side_by_side.Goals as goal

pub superstep_all-requires-clause-ready : goal.superstep_all-requires-clause-ready
superstep_all-requires-clause-ready g c κs within =
    let ready : (i : ℕ) (k : _) → get_elem? c.in_ok-kits.kits.items i ≡ some k → IsOf k.pass k.lead.now × (k.buffer.state ≡ Exchanged) × IsFor 1 k.buffer (pass_view k.pass) =
    λ i k at. let it = c.in_ok-kits.ensures.kits i k at in (subst (λ lead. IsOf k.pass lead) (sym it.0) it.1, it.2, it.3) in
    all_at _ c.in_ok-kits.kits.items ready

pub passes_of-requires : goal.passes_of-requires
passes_of-requires g c = record {
  count = zip_long _ c.in_ok-kits.kits.items _ c.superstep_all.ensures.steps ∙ (c.in_ok-kits.ensures.all ∙ c.in_ok-lead.ensures.begins.begins.all.count);
  kits = λ i k at. let was = zip_at _ c.in_ok-kits.kits.items _ c.superstep_all.ensures.steps i k at in let it = c.in_ok-kits.ensures.kits i was.0 was.1 in
      let same = zip_long _ c.in_ok-kits.kits.items _ c.superstep_all.ensures.steps in let all = c.in_ok-kits.ensures.all in let rank = was.2.2 in let turn = it.4 in
      (subst (λ lead. IsOf k.pass lead) it.0 was.2.1, omega arith);
}
