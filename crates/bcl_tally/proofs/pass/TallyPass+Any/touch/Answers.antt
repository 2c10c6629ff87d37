use Rattle.std.proofs.Common.{◌∙◌}
use Rattle.std.specs.Prelude.{◌==◌, ◌+◌, ◌-◌, ◌%◌, ◌^◌, if◌then◌else◌, bit_or, min}
use Rattle.bcl_phase.specs.Parts.{lead_key, pass_view}
use Rattle.bcl_tally.proofs.Fits.{at_rest, stays_at, traded, lowered, marked, least}
use Rattle.bcl_tally.proofs.pass.TallyPass+Any.touch.Goals as goal

pub cas-exchanged-requires-clause-step : goal.cas-exchanged-requires-clause-step
cas-exchanged-requires-clause-step c = let v = pass_view c.args.self.now.pass.pass in
    stays_at (lead_key c.args.lead.now) v.promise v.rank _ (λ m. if m == c.args.guess then c.args.guess else m) v.note (at_rest _ c.args.self.now.pass.idle) (λ m _. traded c.args.guess m)

pub fetch_sub-lowered-requires-clause-step : goal.fetch_sub-lowered-requires-clause-step
fetch_sub-lowered-requires-clause-step c = let v = pass_view c.cas-exchanged.new.self in
    stays_at (lead_key c.args.lead.now) v.promise v.rank _ (λ m. (m + (2 ^ 64 - 0)) % 2 ^ 64) v.note c.cas-exchanged.ensures.told.fact.1 lowered

pub fetch_or-marked-requires-clause-step : goal.fetch_or-marked-requires-clause-step
fetch_or-marked-requires-clause-step c = let v = pass_view c.fetch_sub-lowered.new.self in
    stays_at (lead_key c.args.lead.now) v.promise v.rank _ (λ m. bit_or m 0) v.note c.fetch_sub-lowered.ensures.told.fact.1 (λ m _. marked m)

pub fetch_min-least-requires-clause-step : goal.fetch_min-least-requires-clause-step
fetch_min-least-requires-clause-step c = let v = pass_view c.fetch_or-marked.new.self in
    stays_at (lead_key c.args.lead.now) v.promise v.rank _ (λ m. min m 18446744073709551615) v.note c.fetch_or-marked.ensures.told.fact.1 least

pub returns-clause-rank : goal.returns-clause-rank
returns-clause-rank c = c.fetch_min-least.ensures.took.same_rank ∙ (c.fetch_or-marked.ensures.took.same_rank ∙ (c.fetch_sub-lowered.ensures.took.same_rank ∙ c.cas-exchanged.ensures.took.same_rank))
