use Rattle.std.proofs.Common.{◌≡◌, refl, arith}
use Rattle.bcl_phase.specs.Views.{atomic}
use Rattle.bcl_phase.specs.Parts.{lead_key, pass_view}
use Rattle.bcl_phase.proofs.Calls.{stands_one}
use Rattle.bcl_gauge.specs.declared.gauge.Call.TheVariants.{Lower}
use Rattle.bcl_gauge.specs.Gauge.{ranks, start, next, permits}
use Rattle.bcl_gauge.proofs.Steps.{lowers}
use Rattle.bcl_gauge.proofs.pass.GaugePass+Any.lower.Goals as goal

pub fetch_min-requires-clause-step : goal.fetch_min-requires-clause-step
fetch_min-requires-clause-step c = let v = pass_view c.args.self.now.pass.pass in let any = c.args.self.now.pass.pass.pass.1 in
    lowers (lead_key c.args.lead.now) v.promise v.rank c.args.n (λ e. let is : v.promise ≡ 9 = any in absurd (omega arith))

pub returns-clause-stands : goal.returns-clause-stands
returns-clause-stands c = let step = c.fetch_min.ensures in
    stands_one ranks start next permits (lead_key c.args.lead.now) atomic (pass_view c.args.self.now.pass.pass) (pass_view c.fetch_min.new.self) _ c.fetch_min.result (Lower c.args.n) tt step.took step.told step.told.fact refl
