use Rattle.std.proofs.Common.{◌≡◌, ℕ, ◌+◌, ◌*◌, ◌-◌, List, [], ◌∷◌, refl, sym, ap, ◌∙◌, subst, arith}
use Rattle.std.proofs.lemmas.Bool.{false≢true}
use Rattle.bcl_event.specs.History.{event}
use Rattle.bcl_event.specs.declared.map.MapCall.TheVariants.{Find}
use Rattle.bcl_event.specs.declared.map.MapReply.TheVariants.{Value}
use Rattle.bcl_phase.specs.Views.{get}
use Rattle.bcl_phase.specs.Parts.{lead_key, lead_heads, lead_layout, pass_view}
use Rattle.bcl_phase.specs.Flights.{Lies}
use Rattle.bcl_phase.proofs.Calls.{stands_one, stands_behind}
use Rattle.bcl_map.specs.Map.{size, path, ranks, first_pairs, next, permits}
use Rattle.bcl_map.specs.Finds.{MaySee, value_of}
use Rattle.bcl_map.specs.Calls.{Stands}
use Rattle.bcl_phase.proofs.Flights.{whole_object}
use Rattle.bcl_map.proofs.Looks.{lawful, small, word_is, value_step}
use Rattle.bcl_map.proofs.find.value.Goals as goal

pub get-requires-clause-step : goal.get-requires-clause-step
get-requires-clause-step g c = let I = c.loop-j.invariant in let lead = c.args.lead.now in let v = pass_view c.loop-j.pass in let k = c.args.key.now in let d = c.args.number in
    let width = c.WORDS-last.ensures in let j = c.loop-j-test.true in let first = c.WORDS-first.ensures in
    let at : 1 + c.WORDS-first.result + c.loop-j.j ≡ 1 + (g.K.Object.WORDS + c.loop-j.j) = omega arith in
    let see : MaySee (lead_key lead) v.promise v.rank k = subst (λ (z : ℕ × ℕ). MaySee (lead_key lead) z.0 z.1 k) (λ i. (sym c.loop-j.pass.pass.1 i, sym I.still.same.same_rank i)) c.requires.see in
    value_step g.K.Object.WORDS g.V.Object.WORDS g.K.Object.passes g.V.Object.passes g.L.MergeLaw.op (lead_key lead) (lawful g.K.Object.WORDS g.V.Object.WORDS (lead_heads lead) (lead_layout lead) (lead_key lead) c.requires.shape) v.promise v.rank k d see c.loop-j.j _ v.note c.requires.key.most (omega arith) I.reads
    (word_is g.K.Object.WORDS g.V.Object.WORDS (lead_heads lead) (lead_layout lead) (lead_key lead) c.requires.shape c.args.at (path (lead_key lead) k d) (1 + c.WORDS-first.result + c.loop-j.j) c.word_of.result c.requires.at c.word_of.ensures.spot
    ∙ ap (λ (w : ℕ). size g.K.Object.WORDS g.V.Object.WORDS * path (lead_key lead) k d + w) at)

pub word_of-requires-2 : goal.word_of-requires-2
word_of-requires-2 g c = record { room = let width = c.WORDS-last.ensures in let first = c.WORDS-first.ensures in let some = c.requires.value.least in let all = small g.K.Object.WORDS g.V.Object.WORDS (lead_heads c.args.lead.now) (lead_layout c.args.lead.now) (lead_key c.args.lead.now) c.requires.shape c.args.at _ c.requires.at in omega arith }

pub get-requires-2-clause-step : goal.get-requires-2-clause-step
get-requires-2-clause-step g c = let I = c.loop-j.invariant in let lead = c.args.lead.now in let v = pass_view c.loop-j.pass in let k = c.args.key.now in let d = c.args.number in
    let width = c.WORDS-last.ensures in let first = c.WORDS-first.ensures in let some = c.requires.value.least in
    let at : 1 + c.WORDS-first.result + (c.WORDS-last.result - 1) ≡ 1 + (g.K.Object.WORDS + (c.WORDS-last.result - 1)) = omega arith in
    let see : MaySee (lead_key lead) v.promise v.rank k = subst (λ (z : ℕ × ℕ). MaySee (lead_key lead) z.0 z.1 k) (λ i. (sym c.loop-j.pass.pass.1 i, sym I.still.same.same_rank i)) c.requires.see in
    value_step g.K.Object.WORDS g.V.Object.WORDS g.K.Object.passes g.V.Object.passes g.L.MergeLaw.op (lead_key lead) (lawful g.K.Object.WORDS g.V.Object.WORDS (lead_heads lead) (lead_layout lead) (lead_key lead) c.requires.shape) v.promise v.rank k d see (c.WORDS-last.result - 1) _ v.note c.requires.key.most (omega arith) I.reads
    (word_is g.K.Object.WORDS g.V.Object.WORDS (lead_heads lead) (lead_layout lead) (lead_key lead) c.requires.shape c.args.at (path (lead_key lead) k d) (1 + c.WORDS-first.result + (c.WORDS-last.result - 1)) c.word_of-2.result c.requires.at c.word_of-2.ensures.spot
    ∙ ap (λ (w : ℕ). size g.K.Object.WORDS g.V.Object.WORDS * path (lead_key lead) k d + w) at)

pub unreachable-requires : goal.unreachable-requires
unreachable-requires g c = let I = c.loop-j.invariant in let step = c.get-2.ensures in let v = pass_view c.loop-j.pass in let k = c.args.key.now in
    let width = c.WORDS-last.ensures in let some = c.requires.value.least in let most = c.requires.value.most in let end = c.loop-j-test.false in let within = c.loop-j.auto.j-end in
    let at : c.loop-j.j ≡ c.WORDS-last.result - 1 = omega arith in
    let passed : g.V.Object.passes (value_of v.note.claims) ≡ _ = (step.told.fact.1 k (value_of v.note.claims) step.told.fact.0.there).1 in
    let whole = whole_object g.V.Object.WORDS c.loop-j.words (value_of v.note.claims) (c.WORDS-last.result - 1) c.get-2.result I.room (omega arith) (subst (λ (n : ℕ). Lies c.loop-j.words 0 (value_of v.note.claims) n) at I.got) step.told.fact.0.word (λ n later. I.zeros n (omega arith)) (omega arith)
    (g.V.Object.shape c.requires.value (value_of v.note.claims) passed) in
    false≢true (sym (c.in_default.ensures.none.0 refl) ∙ (ap g.V.Object.passes whole ∙ passed))

pub returns-clause-stands : goal.returns-clause-stands
returns-clause-stands g c = let I = c.loop-j.invariant in let step = c.get-2.ensures in let k = lead_key c.args.lead.now in let key = c.args.key.now in
    let u = pass_view c.args.pass.now in let v = pass_view c.loop-j.pass in let w = pass_view c.get-2.new.self in let value = g.V.Object.words c.in-Some.value in
    let width = c.WORDS-last.ensures in let some = c.requires.value.least in let most = c.requires.value.most in let end = c.loop-j-test.false in let within = c.loop-j.auto.j-end in
    let at : c.loop-j.j ≡ c.WORDS-last.result - 1 = omega arith in
    let passed : g.V.Object.passes (value_of v.note.claims) ≡ _ = (step.told.fact.1 key (value_of v.note.claims) step.told.fact.0.there).1 in
    let whole = whole_object g.V.Object.WORDS c.loop-j.words (value_of v.note.claims) (c.WORDS-last.result - 1) c.get-2.result I.room (omega arith) (subst (λ (n : ℕ). Lies c.loop-j.words 0 (value_of v.note.claims) n) at I.got) step.told.fact.0.word (λ n later. I.zeros n (omega arith)) (omega arith)
    (g.V.Object.shape c.requires.value (value_of v.note.claims) passed) in
    let all = step.told.fact.0.all (omega arith) in
    let made : Stands g.L.MergeLaw.op k v w (event v.rank (Find key) (Value value) ∷ []) =
    stands_one ranks first_pairs (next g.L.MergeLaw.op) permits k get v w _ c.get-2.result (Find key) (Value value) step.took step.told all.0 (all.1 ∙ ap (λ (l : List ℕ). Value l) (sym whole ∙ sym c.in-Some.ensures.some)) in
    subst (λ (r : ℕ). Stands g.L.MergeLaw.op k u w (event r (Find key) (Value value) ∷ [])) I.still.same.same_rank (stands_behind ranks first_pairs (next g.L.MergeLaw.op) permits k u v w _ I.still made)
