use Rattle.std.proofs.Common.{ℕ, ◌+◌, sym, subst, arith}
use Rattle.bcl_phase.specs.Parts.{lead_key, lead_heads, lead_layout, pass_view}
use Rattle.bcl_map.specs.Map.{path}
use Rattle.bcl_map.specs.Walking.{strays}
use Rattle.bcl_map.proofs.Looks.{lawful, word_is}
use Rattle.bcl_map.proofs.Sees.{match_step}
use Rattle.bcl_map.proofs.Reached.{past_by, past_behind}
use Rattle.bcl_map.proofs.look.has_key.Goals as goal

pub get-found-requires-clause-step : goal.get-found-requires-clause-step
get-found-requires-clause-step g c = let I = c.loop-j.invariant in let lead = c.args.lead.now in let L = lead_key lead in let v = pass_view c.loop-j.pass in let k = c.args.key.now in let d = c.args.number in let call = c.args.call.now in
    let kw = g.K.Object.WORDS in let vw = g.V.Object.WORDS in
    let width = c.WORDS-j-end.ensures in let low = c.loop-j-test.true in
    let may : g.C.Walking.may L v.promise v.rank k = subst (λ (z : ℕ × ℕ). g.C.Walking.may L z.0 z.1 k) (λ i. (sym c.loop-j.pass.pass.1 i, sym I.came.still.same.same_rank i)) c.requires.may in
    match_step kw vw g.K.Object.passes g.V.Object.passes g.L.MergeLaw.op L (lawful kw vw (lead_heads lead) (lead_layout lead) L c.requires.shape) v.promise v.rank (g.C.Walking.walker call k) k d
    (g.C.Walking.sees L v.promise v.rank k may) (g.C.Walking.permitted call L v.promise v.rank k may) (g.C.Walking.answered call k) (strays v.note.claims) c.loop-j.j _ v.note c.requires.key.most c.requires.words (omega arith) (I.matching (omega arith))
    (word_is kw vw (lead_heads lead) (lead_layout lead) L c.requires.shape c.args.at (path L k d) (1 + c.loop-j.j) c.word_of.result c.requires.at c.word_of.ensures.spot)

pub returns-then-found-key-clause-other : goal.returns-then-found-key-clause-other
returns-then-found-key-clause-other g c _ = let I = c.loop-j.invariant in let step = c.get-found.ensures in let v = pass_view c.loop-j.pass in let w = pass_view c.get-found.new.self in let op = g.L.MergeLaw.op in let L = lead_key c.args.lead.now in let k = c.args.key.now in let d = c.args.number in
    let walker = g.C.Walking.walker c.args.call.now k in let width = c.WORDS-j-end.ensures in let low = c.loop-j-test.true in
    past_behind op L walker k d (pass_view c.args.pass.now) v w I.came
    (past_by op L g.K.Object.WORDS g.V.Object.WORDS walker k d v w c.loop-j.j c.get-found.result step.took (I.matching (omega arith)) step.told c.if-found-key.true)
