use Rattle.std.proofs.Common.{◌≡◌, ℕ, ◌+◌, ◌*◌, List, inr, refl, sym, ap, ◌∙◌, subst, arith, true, length-set}
use Rattle.std.proofs.lemmas.Bool.{false≢true}
use Rattle.bcl_phase.specs.Parts.{lead_key, lead_heads, lead_layout, pass_view}
use Rattle.bcl_phase.specs.Flights.{Lies}
use Rattle.bcl_phase.proofs.Calls.{still_trans}
use Rattle.bcl_phase.proofs.Flights.{more_lies, zeros_next}
use Rattle.bcl_map.specs.Map.{size, path}
use Rattle.bcl_map.specs.Notes.{Claim}
use Rattle.bcl_map.specs.Finds.{MaySee, reading, value_of}
use Rattle.bcl_map.proofs.Looks.{lawful, small, word_is}
use Rattle.bcl_map.proofs.Readings.{read_step, read_on, got_all}
use Rattle.bcl_map.proofs.merge.old_value.Goals as goal

pub word_of-requires : goal.word_of-requires
word_of-requires g c = record { room = let width = c.WORDS.ensures in let end = c.WORDS-j-end.ensures in let low = c.loop-j-test.true in let all = small g.K.Object.WORDS g.V.Object.WORDS (lead_heads c.args.lead.now) (lead_layout c.args.lead.now) (lead_key c.args.lead.now) c.requires.shape c.args.at _ c.requires.at in omega arith }

pub get-requires-clause-step : goal.get-requires-clause-step
get-requires-clause-step g c = let I = c.loop-j.invariant in let lead = c.args.lead.now in let u = pass_view c.args.pass.now in let v = pass_view c.loop-j.pass in let k = c.args.key.now in let d = c.args.number in
    let kw = g.K.Object.WORDS in let vw = g.V.Object.WORDS in
    let end = c.WORDS-j-end.ensures in let low = c.loop-j-test.true in let width = c.WORDS.ensures in
    let at : 1 + c.WORDS.result + c.loop-j.j ≡ 1 + (kw + c.loop-j.j) = omega arith in
    let see : MaySee (lead_key lead) v.promise v.rank k = inr (c.loop-j.pass.pass.1, c.requires.mine ∙ sym I.still.same.same_rank) in
    let reads : v.note.claims ≡ reading k d (value_of v.note.claims) = I.same ∙ (c.requires.reads ∙ ap (λ (as' : List Claim). reading k d (value_of as')) (sym I.same)) in
    read_step kw vw g.K.Object.passes g.V.Object.passes g.L.MergeLaw.op (lead_key lead) (lawful kw vw (lead_heads lead) (lead_layout lead) (lead_key lead) c.requires.shape) v.promise v.rank k d see c.loop-j.j _ v.note c.requires.key.most (omega arith) reads
    (word_is kw vw (lead_heads lead) (lead_layout lead) (lead_key lead) c.requires.shape c.args.at (path (lead_key lead) k d) (1 + c.WORDS.result + c.loop-j.j) c.word_of.result c.requires.at c.word_of.ensures.spot
    ∙ ap (λ (w : ℕ). size kw vw * path (lead_key lead) k d + w) at)

pub loop-j-preserved : goal.loop-j-preserved
loop-j-preserved g c = let I = c.loop-j.invariant in let step = c.get.ensures in let lead = c.args.lead.now in let L = lead_key lead in let k = c.args.key.now in let d = c.args.number in
    let u = pass_view c.args.pass.now in let v = pass_view c.loop-j.pass in let w = pass_view c.get.new.self in
    let end = c.WORDS-j-end.ensures in let low = c.loop-j-test.true in let most = c.requires.value.most in
    let read = read_on g.K.Object.WORDS g.V.Object.WORDS g.K.Object.passes g.V.Object.passes g.L.MergeLaw.op L k d v w (value_of v.note.claims) c.loop-j.j c.get.result step.took step.told in
    let same_value : value_of v.note.claims ≡ value_of u.note.claims = ap value_of I.same in record {
      of = step.of;
      still = still_trans u v w I.still read.0;
      same = read.1 ∙ (ap (reading k d) same_value ∙ sym c.requires.reads);
      got = more_lies c.loop-j.words (value_of u.note.claims) c.loop-j.j c.get.result I.room (omega arith) I.got (read.2 ∙ ap (λ (l : List ℕ). Rattle.std.specs.List.slice_index l c.loop-j.j) same_value);
      room = length-set c.loop-j.words c.loop-j.j c.get.result ∙ I.room;
      zeros = zeros_next c.loop-j.words c.loop-j.j c.get.result I.zeros;
      typed = λ _. subst (λ (l : List ℕ). g.V.Object.passes l ≡ true) same_value read.3;
      gets = step.took.gets_rise ∙ (let n = I.gets in omega arith);
      puts = step.took.puts_rise ∙ I.puts;
      atomics = step.took.atomics_rise ∙ I.atomics;
    }

pub unreachable-requires : goal.unreachable-requires
unreachable-requires g c = let I = c.loop-j.invariant in let u = pass_view c.args.pass.now in let v = value_of u.note.claims in let vw = g.V.Object.WORDS in
    let width = c.WORDS-j-end.ensures in let some = c.requires.value.least in let end = c.loop-j-test.false in let within = c.loop-j.auto.j-end in
    let at : c.loop-j.j ≡ vw = omega arith in
    let passed = I.typed (omega arith) in
    let whole = got_all vw c.loop-j.words v I.room (subst (λ (n : ℕ). Lies c.loop-j.words 0 v n) at I.got) (λ n later. I.zeros n (omega arith)) (g.V.Object.shape c.requires.value v passed) in
    false≢true (sym (c.in_default.ensures.none.0 refl) ∙ (ap g.V.Object.passes whole ∙ passed))

pub returns-clause-words : goal.returns-clause-words
returns-clause-words g c = let I = c.loop-j.invariant in let u = pass_view c.args.pass.now in let v = value_of u.note.claims in let vw = g.V.Object.WORDS in
    let width = c.WORDS-j-end.ensures in let some = c.requires.value.least in let end = c.loop-j-test.false in let within = c.loop-j.auto.j-end in
    let at : c.loop-j.j ≡ vw = omega arith in
    let whole = got_all vw c.loop-j.words v I.room (subst (λ (n : ℕ). Lies c.loop-j.words 0 v n) at I.got) (λ n later. I.zeros n (omega arith)) (g.V.Object.shape c.requires.value v (I.typed (omega arith))) in
    c.in-Some.ensures.some ∙ whole
