use Rattle.std.proofs.Common.{◌≡◌, ℕ, ◌-◌, List, [], ◌∷◌, length-set, refl, sym, ap, ◌∙◌, subst, arith}
use Rattle.std.proofs.lemmas.Bool.{false≢true}
use Rattle.bcl_event.specs.History.{event}
use Rattle.bcl_event.specs.declared.array.ArrayCall.TheVariants.{Read}
use Rattle.bcl_event.specs.declared.array.ArrayReply.TheVariants.{Value}
use Rattle.bcl_phase.specs.Views.{get}
use Rattle.bcl_phase.specs.Parts.{lead_key, lead_heads, lead_layout, pass_view}
use Rattle.bcl_phase.proofs.Calls.{still_refl, still_trans, still_by, stands_one, stands_behind}
use Rattle.bcl_phase.proofs.Flights.{zeros_next}
use Rattle.bcl_darray.specs.Array.{ranks, start, next, permits}
use Rattle.bcl_darray.specs.Fits.{IsFixed}
use Rattle.bcl_darray.specs.Calls.{HasGot, Stands}
use Rattle.bcl_darray.proofs.Seated.{shaped_by}
use Rattle.bcl_darray.proofs.Gets.{got_more, got_all}
use Rattle.bcl_darray.proofs.Reading.{no_words, word_is, gets_at, got_next, last_word}
use Rattle.bcl_darray.proofs.item.read_item.Goals as goal

pub loop-j-init : goal.loop-j-init
loop-j-init g c = record {
  of = c.requires.of;
  still = still_refl (pass_view c.args.pass.now);
  got = subst (HasGot c.args.index 0 (0 ∷ 0 ∷ 0 ∷ 0 ∷ 0 ∷ 0 ∷ 0 ∷ 0 ∷ [])) (sym c.requires.rest) refl;
  room = refl;
  zeros = λ k least. no_words k;
  gets = omega arith;
  puts = refl;
  atomics = refl;
}

pub get-requires-clause-step : goal.get-requires-clause-step
get-requires-clause-step g c = let I = c.loop-j.invariant in let lead = c.args.lead.now in let v = pass_view c.loop-j.pass in
    let width = c.WORDS-last.ensures in let j = c.loop-j-test.true in
    let fixed : IsFixed (lead_key lead) v.promise v.rank c.args.index = subst (λ (z : ℕ × ℕ). IsFixed (lead_key lead) z.0 z.1 c.args.index) (λ i. (sym c.loop-j.pass.pass.1 i, sym I.still.same.same_rank i)) c.requires.fixed in
    gets_at g.T.Object.WORDS g.T.Object.passes (lead_key lead) v.promise v.rank c.args.index c.loop-j.j _ c.loop-j.words v.note fixed c.requires.within (omega arith)
    (word_is g.T.Object.WORDS (lead_heads lead) (lead_layout lead) (lead_key lead) c.args.at c.args.index c.loop-j.j c.word_of.result (shaped_by _ _ _ _ lead.laid) c.requires.at c.word_of.ensures.spot) I.got

pub loop-j-preserved : goal.loop-j-preserved
loop-j-preserved g c = let I = c.loop-j.invariant in let step = c.get.ensures in let took = step.took in
    let u = pass_view c.loop-j.pass in let v = pass_view c.get.new.self in
    let width = c.WORDS-last.ensures in let j = c.loop-j-test.true in let most = c.requires.fits.most in let gets = I.gets in let rise = took.gets_rise in
    let more = got_more g.T.Object.WORDS g.T.Object.passes c.args.index c.loop-j.j u.note c.get.result _ step.told.did v.note (omega arith) step.told.fact in record {
      of = step.of;
      still = still_trans (pass_view c.args.pass.now) u v I.still (still_by ranks start next permits (lead_key c.args.lead.now) get u v _ c.get.result took step.told more.none);
      got = got_next c.args.index c.loop-j.j c.loop-j.words c.get.result I.room (omega arith) u.note v.note _ step.told.did I.got more;
      room = length-set c.loop-j.words c.loop-j.j c.get.result ∙ I.room;
      zeros = zeros_next c.loop-j.words c.loop-j.j c.get.result I.zeros;
      gets = omega arith;
      puts = took.puts_rise ∙ I.puts;
      atomics = took.atomics_rise ∙ I.atomics;
    }

pub get-requires-2-clause-step : goal.get-requires-2-clause-step
get-requires-2-clause-step g c = let I = c.loop-j.invariant in let lead = c.args.lead.now in let v = pass_view c.loop-j.pass in
    let width = c.WORDS-last.ensures in let some = c.requires.fits.least in let end = c.loop-j-test.false in let most = c.loop-j.auto.j-end in
    let fixed : IsFixed (lead_key lead) v.promise v.rank c.args.index = subst (λ (z : ℕ × ℕ). IsFixed (lead_key lead) z.0 z.1 c.args.index) (λ i. (sym c.loop-j.pass.pass.1 i, sym I.still.same.same_rank i)) c.requires.fixed in
    let at : c.loop-j.j ≡ c.WORDS-last.result - 1 = omega arith in
    gets_at g.T.Object.WORDS g.T.Object.passes (lead_key lead) v.promise v.rank c.args.index _ _ c.loop-j.words v.note fixed c.requires.within (omega arith)
    (word_is g.T.Object.WORDS (lead_heads lead) (lead_layout lead) (lead_key lead) c.args.at c.args.index _ c.word_of-2.result (shaped_by _ _ _ _ lead.laid) c.requires.at c.word_of-2.ensures.spot) (subst (λ (j : ℕ). HasGot c.args.index j c.loop-j.words v.note) at I.got)

pub unreachable-requires : goal.unreachable-requires
unreachable-requires g c = let I = c.loop-j.invariant in let step = c.get-2.ensures in let x = (pass_view c.loop-j.pass).note in
    let width = c.WORDS-last.ensures in let some = c.requires.fits.least in let end = c.loop-j-test.false in let within = c.loop-j.auto.j-end in
    let at : c.loop-j.j ≡ c.WORDS-last.result - 1 = omega arith in
    let whole = last_word g.T.Object.WORDS g.T.Object.passes (g.T.Object.shape c.requires.fits) c.requires.fits.most c.args.index (c.WORDS-last.result - 1) c.loop-j.words I.room (λ n later. I.zeros n (omega arith)) (omega arith)
    x (pass_view c.get-2.new.self).note c.get-2.result _ step.told.did (subst (λ (j : ℕ). HasGot c.args.index j c.loop-j.words x) at I.got) step.told.fact in
    false≢true (sym (c.in_default.ensures.none.0 refl) ∙ (ap g.T.Object.passes whole.1 ∙ whole.0.whole))

pub returns-clause-stands : goal.returns-clause-stands
returns-clause-stands g c = let I = c.loop-j.invariant in let step = c.get-2.ensures in let k = lead_key c.args.lead.now in
    let u = pass_view c.args.pass.now in let v = pass_view c.loop-j.pass in let w = pass_view c.get-2.new.self in let item = g.T.Object.words c.in-Some.item in
    let width = c.WORDS-last.ensures in let some = c.requires.fits.least in let end = c.loop-j-test.false in let within = c.loop-j.auto.j-end in
    let at : c.loop-j.j ≡ c.WORDS-last.result - 1 = omega arith in
    let whole = last_word g.T.Object.WORDS g.T.Object.passes (g.T.Object.shape c.requires.fits) c.requires.fits.most c.args.index (c.WORDS-last.result - 1) c.loop-j.words I.room (λ n later. I.zeros n (omega arith)) (omega arith)
    v.note w.note c.get-2.result _ step.told.did (subst (λ (j : ℕ). HasGot c.args.index j c.loop-j.words v.note) at I.got) step.told.fact in
    let made : Stands k v w (event v.rank (Read c.args.index) (Value item) ∷ []) =
    stands_one ranks start next permits k get v w _ c.get-2.result (Read c.args.index) (Value item) step.took step.told whole.0.one (ap (λ (l : List ℕ). Value l) (sym whole.1 ∙ sym c.in-Some.ensures.some)) in
    subst (λ (r : ℕ). Stands k u w (event r (Read c.args.index) (Value item) ∷ [])) I.still.same.same_rank (stands_behind ranks start next permits k u v w _ I.still made)

pub returns-clause-rest : goal.returns-clause-rest
returns-clause-rest g c = let width = c.WORDS-last.ensures in let some = c.requires.fits.least in let told = c.get-2.ensures.told in
    (got_all g.T.Object.WORDS g.T.Object.passes c.args.index (c.WORDS-last.result - 1) (pass_view c.loop-j.pass).note c.get-2.result _ told.did (pass_view c.get-2.new.self).note (omega arith) told.fact).note
