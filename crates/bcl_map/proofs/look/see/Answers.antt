use Rattle.std.proofs.Common.{◌≡◌, ℕ, suc, ◌+◌, sym, subst, arith}
use Rattle.bcl_phase.specs.Parts.{lead_key, lead_heads, lead_layout, pass_view}
use Rattle.bcl_map.specs.Map.{path}
use Rattle.bcl_map.specs.Notes.{Knows}
use Rattle.bcl_map.specs.Walking.{strays}
use Rattle.bcl_map.proofs.Looks.{lawful, word_is}
use Rattle.bcl_map.proofs.Sees.{see_step}
use Rattle.bcl_map.proofs.Reached.{free_by, meets_by}
use Rattle.bcl_map.proofs.look.see.Goals as goal

pub get-requires-clause-step : goal.get-requires-clause-step
get-requires-clause-step g c = let lead = c.args.lead.now in let L = lead_key lead in let v = pass_view c.args.pass.now in let k = c.args.key.now in let d = c.args.number in let call = c.args.call.now in
    let kw = g.K.Object.WORDS in let vw = g.V.Object.WORDS in
    let may : g.C.Walking.may L v.promise v.rank k = subst (λ (p : ℕ). g.C.Walking.may L p v.rank k) (sym c.args.pass.now.pass.1) c.requires.may in
    see_step kw vw g.K.Object.passes g.V.Object.passes g.L.MergeLaw.op L (lawful kw vw (lead_heads lead) (lead_layout lead) L c.requires.shape) v.promise v.rank (g.C.Walking.walker call k) k d
    (g.C.Walking.sees L v.promise v.rank k may) (g.C.Walking.permitted call L v.promise v.rank k may) (g.C.Walking.answered call k) (strays v.note.claims) c.requires.heading.0 _ v.note c.requires.heading.1 c.requires.heading.2
    (word_is kw vw (lead_heads lead) (lead_layout lead) L c.requires.shape c.args.at (path L k d) 0 c.word_of.result c.requires.at c.word_of.ensures.spot)

pub returns-clause-some : goal.returns-clause-some
returns-clause-some g c knows = let next_one : c.args.number + 1 ≡ suc c.args.number = omega arith in c.get.ensures.told.fact.some (subst (λ (n : ℕ). Knows c.args.key.now n (pass_view c.args.pass.now).note.claims) next_one knows)

pub returns-clause-free : goal.returns-clause-free
returns-clause-free g c = free_by g.L.MergeLaw.op (lead_key c.args.lead.now) g.K.Object.WORDS g.V.Object.WORDS (g.C.Walking.walker c.args.call.now c.args.key.now) c.args.key.now c.args.number (pass_view c.args.pass.now) (pass_view c.get.new.self) _ c.get.result c.get.ensures.took c.get.ensures.told

pub returns-clause-used : goal.returns-clause-used
returns-clause-used g c = meets_by g.L.MergeLaw.op (lead_key c.args.lead.now) g.K.Object.WORDS g.V.Object.WORDS (g.C.Walking.walker c.args.call.now c.args.key.now) c.args.key.now c.args.number (pass_view c.args.pass.now) (pass_view c.get.new.self) c.get.result c.requires.heading.0 c.get.ensures.took c.requires.heading.2 c.get.ensures.told
