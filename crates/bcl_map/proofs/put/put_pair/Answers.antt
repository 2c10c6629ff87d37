use Rattle.std.proofs.Common.{ℕ, ◌+◌, ◌<◌, slice_index, sym, subst, arith}
use Rattle.bcl_phase.specs.Rule.{Moves}
use Rattle.bcl_phase.specs.Parts.{lead_key, lead_heads, lead_layout, lead_word, pass_view}
use Rattle.bcl_map.specs.declared.note.Before.TheVariants.{Nothing}
use Rattle.bcl_map.specs.Map.{path, next, permits}
use Rattle.bcl_map.specs.Fits.{Holds}
use Rattle.bcl_map.specs.Inserts.{PutsWord}
use Rattle.bcl_map.proofs.Finds.{own_words, key_word}
use Rattle.bcl_map.proofs.Looks.{lawful, small, word_is}
use Rattle.bcl_map.proofs.Puts.{put_step}
use Rattle.bcl_map.proofs.put.put_pair.Goals as goal

pub word_of-requires : goal.word_of-requires
word_of-requires g c = record { room = let end = c.WORDS-j-end.ensures in let low = c.loop-j-test.true in let all = small g.K.Object.WORDS g.V.Object.WORDS (lead_heads c.args.lead.now) (lead_layout c.args.lead.now) (lead_key c.args.lead.now) c.requires.shape c.args.at _ c.requires.at in omega arith }

pub put-requires-clause-step : goal.put-requires-clause-step
put-requires-clause-step g c = let I = c.loop-j.invariant in let lead = c.args.lead.now in let L = lead_key lead in let v = pass_view c.loop-j.pass in let k = c.args.key.now in let d = c.args.number in let value = c.args.value.now in
    let kw = g.K.Object.WORDS in let vw = g.V.Object.WORDS in let op = g.L.MergeLaw.op in let j = c.loop-j.j in
    let end = c.WORDS-j-end.ensures in let test = c.loop-j-test.true in let low : j < kw = omega arith in
    subst (λ (p : ℕ). Moves (next op) permits (Holds kw vw g.K.Object.passes g.V.Object.passes) L p v.rank v.note (lead_word lead c.word_of.result) (λ _. slice_index k j) (λ _. PutsWord kw vw op L k value d Nothing j v.note)) (sym c.loop-j.pass.pass.1)
    (put_step kw vw g.K.Object.passes g.V.Object.passes op L (lawful kw vw (lead_heads lead) (lead_layout lead) L c.requires.shape) v.rank k value d Nothing j _ _ v.note (omega arith) I.writes
    (word_is kw vw (lead_heads lead) (lead_layout lead) L c.requires.shape c.args.at (path L k d) (1 + j) c.word_of.result c.requires.at c.word_of.ensures.spot)
    (sym (key_word kw vw k value j low (subst (λ (n : ℕ). j < n) (sym (own_words kw k c.requires.key.most c.requires.words)) low))))
