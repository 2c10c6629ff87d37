use Rattle.std.proofs.Common.{rules, sym, subst}
use Rattle.bcl_phase.specs.Deals.{BeginsAt, EndsAt}
use Rattle.bcl_phase.proofs.Returns.{if_ok}
use Rattle.bcl_phase.proofs.lead.Lead.turn.Goals as goal

pub returns-clause-turns : goal.returns-clause-turns
returns-clause-turns g c = if_ok c.begin.result _ _ c.begin.ensures.begins (λ r begins. let start = begins.begins.start in record {
  same = search rules;
  ends = subst (λ z. EndsAt g.W.Wraps.inner g.P.Promise.CODE c.args.self c.args.passes.items z) (sym start) c.end.ensures.ends.ends;
  begins = subst (λ z. BeginsAt g.X.Wraps.inner g.Q.Promise.CODE z r.0 r.1.items) (sym start) begins.begins;
})
