use Rattle.std.proofs.Common.{ℕ, ◌<◌, List, slice_index, refl, ap, ◌∙◌, arith}
use Rattle.bcl_event.specs.declared.array.ArrayCall.TheVariants.{Write}
use Rattle.bcl_event.specs.declared.array.ArrayReply.TheVariants.{Done}
use Rattle.bcl_phase.specs.Views.{put}
use Rattle.bcl_phase.specs.Parts.{lead_key, lead_heads, lead_layout, pass_view}
use Rattle.bcl_phase.proofs.Calls.{still_refl, still_trans, still_by, stands_one, stands_still}
use Rattle.bcl_darray.specs.Array.{ranks, start, next, permits}
use Rattle.bcl_darray.proofs.Seated.{shaped_by}
use Rattle.bcl_darray.proofs.Puts.{puts_at_first, puts_at_next, first_told, next_told, done_putting}
use Rattle.bcl_darray.proofs.Reading.{word_is}
use Rattle.bcl_darray.proofs.item.write_item.Goals as goal

pub put-requires-clause-step : goal.put-requires-clause-step
put-requires-clause-step g c = let lead = c.args.lead.now in let v = pass_view c.args.pass.now in let some = c.requires.fits.least in
    puts_at_first g.T.Object.WORDS g.T.Object.passes (lead_key lead) v.promise v.rank c.args.index _ _ (g.T.Object.words c.args.item.now) v.note c.args.pass.now.pass.1 c.requires.mine c.requires.within (omega arith) c.to_words-words.ensures.passes
    (word_is g.T.Object.WORDS (lead_heads lead) (lead_layout lead) (lead_key lead) c.args.at c.args.index 0 c.word_of.result (shaped_by _ _ _ _ lead.laid) c.requires.at c.word_of.ensures.spot) (ap (λ (l : List ℕ). slice_index l 0) c.to_words-words.ensures.words) c.requires.rest

pub loop-j-init : goal.loop-j-init
loop-j-init g c = let step = c.put.ensures in let v = pass_view c.args.pass.now in let w = pass_view c.put.new.self in let item = g.T.Object.words c.args.item.now in record {
  of = step.of;
  still = still_refl w;
  note = (first_told g.T.Object.WORDS c.args.index item v.note w.note _ step.told.did c.requires.rest step.told.fact).left;
  gets = refl;
  puts = omega arith;
  atomics = refl;
}

pub put-requires-in-loop-j-clause-step : goal.put-requires-in-loop-j-clause-step
put-requires-in-loop-j-clause-step g c = let I = c.loop-j.invariant in let lead = c.args.lead.now in let v = pass_view c.loop-j.pass in
    let width = c.WORDS-j-end.ensures in let test = c.loop-j-test.true in let low : c.loop-j.j < g.T.Object.WORDS = omega arith in
    puts_at_next g.T.Object.WORDS g.T.Object.passes (lead_key lead) v.promise v.rank c.args.index c.loop-j.j _ _ (g.T.Object.words c.args.item.now) v.note c.requires.within low
    (word_is g.T.Object.WORDS (lead_heads lead) (lead_layout lead) (lead_key lead) c.args.at c.args.index c.loop-j.j c.word_of-in-loop-j.result (shaped_by _ _ _ _ lead.laid) c.requires.at c.word_of-in-loop-j.ensures.spot) (ap (λ (l : List ℕ). slice_index l c.loop-j.j) c.to_words-words.ensures.words) I.note

pub loop-j-preserved : goal.loop-j-preserved
loop-j-preserved g c = let I = c.loop-j.invariant in let step = c.put-in-loop-j.ensures in let k = lead_key c.args.lead.now in let item = g.T.Object.words c.args.item.now in
    let u = pass_view c.put.new.self in let v = pass_view c.loop-j.pass in let w = pass_view c.put-in-loop-j.new.self in let puts = I.puts in let rise = step.took.puts_rise in
    let width = c.WORDS-j-end.ensures in let test = c.loop-j-test.true in let low : c.loop-j.j < g.T.Object.WORDS = omega arith in
    let made = next_told g.T.Object.WORDS c.args.index c.loop-j.j item v.note w.note _ step.told.did low I.note step.told.fact in record {
      of = step.of;
      still = still_trans u v w I.still (still_by ranks start next permits k put v w _ _ step.took step.told made.none);
      note = made.left;
      gets = step.took.gets_rise ∙ I.gets;
      puts = omega arith;
      atomics = step.took.atomics_rise ∙ I.atomics;
    }

pub returns-clause-stands : goal.returns-clause-stands
returns-clause-stands g c = let step = c.put.ensures in let k = lead_key c.args.lead.now in let item = g.T.Object.words c.args.item.now in
    let u = pass_view c.args.pass.now in let v = pass_view c.put.new.self in let w = pass_view c.loop-j.pass in
    let made = first_told g.T.Object.WORDS c.args.index item u.note v.note _ step.told.did c.requires.rest step.told.fact in
    stands_still ranks start next permits k u v w _ (stands_one ranks start next permits k put u v _ _ (Write c.args.index item) Done step.took step.told made.one made.answer) c.loop-j.invariant.still

pub returns-clause-rest : goal.returns-clause-rest
returns-clause-rest g c = let width = c.WORDS-j-end.ensures in let some = c.requires.fits.least in let end = c.loop-j-test.false in let upto = c.loop-j.auto.j-end (omega arith) in
    c.loop-j.invariant.note ∙ done_putting g.T.Object.WORDS c.args.index c.loop-j.j (g.T.Object.words c.args.item.now) (omega arith)

pub returns-clause-puts : goal.returns-clause-puts
returns-clause-puts g c = let width = c.WORDS-j-end.ensures in let some = c.requires.fits.least in let end = c.loop-j-test.false in let upto = c.loop-j.auto.j-end (omega arith) in
    let first = c.put.ensures.took.puts_rise in let all = c.loop-j.invariant.puts in omega arith
