use Rattle.std.proofs.Common.{ℕ, ◌+◌, ◌*◌, slice_index, sym, ap, ◌∙◌, subst, arith}
use Rattle.bcl_event.specs.declared.map.MapReply.TheVariants.{Replaced}
use Rattle.bcl_phase.specs.Rule.{Moves}
use Rattle.bcl_phase.specs.Parts.{lead_key, lead_heads, lead_layout, lead_word, pass_view}
use Rattle.bcl_map.specs.Map.{owning, path, next, permits, size}
use Rattle.bcl_map.specs.Fits.{Holds}
use Rattle.bcl_map.specs.Finds.{value_of}
use Rattle.bcl_map.specs.Walking.{least}
use Rattle.bcl_map.specs.Inserts.{Replaces}
use Rattle.bcl_map.proofs.Looks.{lawful, small, word_is}
use Rattle.bcl_map.proofs.Replaces.{replace_step}
use Rattle.bcl_map.proofs.Reached.{replaced_more, replaced_all, ends_still}
use Rattle.bcl_map.proofs.put.replace.Goals as goal

pub word_of-requires : goal.word_of-requires
word_of-requires g c = record { room = let width = c.WORDS.ensures in let some = c.requires.value.least in let all = small g.K.Object.WORDS g.V.Object.WORDS (lead_heads c.args.lead.now) (lead_layout c.args.lead.now) (lead_key c.args.lead.now) c.requires.shape c.args.at _ c.requires.at in omega arith }

pub put-requires-clause-step : goal.put-requires-clause-step
put-requires-clause-step g c = let lead = c.args.lead.now in let L = lead_key lead in let v = pass_view c.args.pass.now in let k = c.args.key.now in let d = c.args.number in let call = c.args.call.now in let put = c.args.put.now in
    let kw = g.K.Object.WORDS in let vw = g.V.Object.WORDS in let op = g.L.MergeLaw.op in
    subst (λ (p : ℕ). Moves (next op) permits (Holds kw vw g.K.Object.passes g.V.Object.passes) L p v.rank v.note (lead_word lead c.word_of.result) (λ _. slice_index put 0) (λ _. Replaces kw vw op L (g.C.Walking.walker call k).call k put d (value_of v.note.claims) v.note)) (sym c.args.pass.now.pass.1)
    (replace_step kw vw g.K.Object.passes g.V.Object.passes op L (lawful kw vw (lead_heads lead) (lead_layout lead) L c.requires.shape) v.rank (g.C.Walking.walker call k).call k put d c.requires.mine (g.C.Walking.permitted call L owning v.rank k (g.met.C.Storing.owns L v.rank k c.requires.mine)) (value_of v.note.claims) _ _ v.note
    c.requires.stores c.requires.key.most c.requires.value.least c.requires.words.0 c.requires.put_words.0 c.requires.words.1 c.requires.put_words.1 c.requires.reads
    (word_is kw vw (lead_heads lead) (lead_layout lead) L c.requires.shape c.args.at (path L k d) (1 + c.WORDS.result) c.word_of.result c.requires.at c.word_of.ensures.spot ∙ ap (λ (z : ℕ). size kw vw * path L k d + (1 + z)) c.WORDS.ensures) (λ _. slice_index put 0))

pub returns-then-WORDS-gt1-clause-ends : goal.returns-then-WORDS-gt1-clause-ends
returns-then-WORDS-gt1-clause-ends g c = let op = g.L.MergeLaw.op in let L = lead_key c.args.lead.now in let k = c.args.key.now in let d = c.args.number in let call = c.args.call.now in let put = c.args.put.now in let event = (g.C.Walking.walker call k).call in
    let u = pass_view c.args.pass.now in let v = pass_view c.put.new.self in let w = pass_view c.put_value.new.pass in let width = c.WORDS-2.ensures in let many = c.if-WORDS-gt1.true in
    ends_still op L event Replaced u v w
    (replaced_more op L g.K.Object.WORDS g.V.Object.WORDS event k d u v put (value_of u.note.claims) _ c.put.ensures.took (ap least c.requires.reads) c.put.ensures.told (omega arith)).0
    c.put_value.ensures.still c.put_value.ensures.atomics

pub returns-else-WORDS-gt1-clause-ends : goal.returns-else-WORDS-gt1-clause-ends
returns-else-WORDS-gt1-clause-ends g c = let op = g.L.MergeLaw.op in let L = lead_key c.args.lead.now in let k = c.args.key.now in let d = c.args.number in let call = c.args.call.now in let put = c.args.put.now in let event = (g.C.Walking.walker call k).call in
    let u = pass_view c.args.pass.now in let v = pass_view c.put.new.self in let width = c.WORDS-2.ensures in let few = c.if-WORDS-gt1.false in let some = c.requires.value.least in
    (replaced_all op L g.K.Object.WORDS g.V.Object.WORDS event k d u v put (value_of u.note.claims) _ c.put.ensures.took (ap least c.requires.reads) c.put.ensures.told (omega arith)).0
