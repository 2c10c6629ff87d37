use Rattle.std.proofs.Common.{ℕ, sym, ap, ◌∙◌, subst, arith}
use Rattle.std.specs.Prelude.{◌==◌, if◌then◌else◌}
use Rattle.bcl_bucket.specs.Controls.{word_of}
use Rattle.bcl_bucket.specs.declared.control.State.TheVariants.{Ready}
use Rattle.bcl_phase.specs.Rule.{Moves}
use Rattle.bcl_phase.specs.Parts.{lead_key, lead_heads, lead_layout, lead_word, pass_view}
use Rattle.bcl_map.specs.Map.{owning, path, next, permits}
use Rattle.bcl_map.specs.Fits.{Holds}
use Rattle.bcl_map.specs.Inserts.{Takes}
use Rattle.bcl_map.proofs.Gets.{low_home}
use Rattle.bcl_map.proofs.Looks.{lawful, word_is}
use Rattle.bcl_map.proofs.Takes.{take_step}
use Rattle.bcl_map.proofs.place.take.Goals as goal

pub ready-requires : goal.ready-requires
ready-requires g c = record { few = let lead = c.args.lead.now in let low = low_home (lead_key lead) (lawful g.K.Object.WORDS g.V.Object.WORDS (lead_heads lead) (lead_layout lead) (lead_key lead) c.requires.shape) c.args.key.now in let is = c.requires.home in omega arith }

pub cas-requires-clause-step : goal.cas-requires-clause-step
cas-requires-clause-step g c = let lead = c.args.lead.now in let L = lead_key lead in let v = pass_view c.args.pass.now in let k = c.args.key.now in let d = c.args.number in let call = c.args.call.now in let value = g.C.Storing.value call in
    let kw = g.K.Object.WORDS in let vw = g.V.Object.WORDS in let op = g.L.MergeLaw.op in
    subst (λ (p : ℕ). Moves (next op) permits (Holds kw vw g.K.Object.passes g.V.Object.passes) L p v.rank v.note (lead_word lead c.word_of.result) (λ n. if n == 0 then c.ready.result else n) (Takes kw vw op L (g.C.Walking.walker call k).call k value d v.note)) (sym c.args.pass.now.pass.1)
    (take_step kw vw g.K.Object.passes g.V.Object.passes op L (lawful kw vw (lead_heads lead) (lead_layout lead) L c.requires.shape) v.rank (g.C.Walking.walker call k).call k value d c.requires.mine (g.C.Walking.permitted call L owning v.rank k (g.met.C.Storing.owns L v.rank k c.requires.mine)) (g.met.C.Storing.stores call k).stores _ _ v.note
    c.requires.number c.requires.words.0 c.requires.value_words.0 c.requires.words.1 c.requires.value_words.1 c.requires.facing.0
    (word_is kw vw (lead_heads lead) (lead_layout lead) L c.requires.shape c.args.at (path L k d) 0 c.word_of.result c.requires.at c.word_of.ensures.spot)
    (c.ready.ensures.word ∙ ap (λ (z : ℕ). word_of (record { state = Ready; home = z; readers = 0 })) c.requires.home))
