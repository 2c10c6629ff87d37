use Rattle.std.proofs.Common.{◌≡◌, ℕ, ◌+◌, ◌*◌, List, [], ◌∷◌, sym, ap, ap₂, ◌∙◌, subst, arith}
use Rattle.bcl_event.specs.History.{event}
use Rattle.bcl_event.specs.Map.{with_value, stored}
use Rattle.bcl_event.specs.declared.map.MapCall.TheVariants.{Merge}
use Rattle.bcl_event.specs.declared.map.MapReply.TheVariants.{Replaced}
use Rattle.bcl_phase.specs.Parts.{lead_key, lead_layout, pass_view}
use Rattle.bcl_map.specs.declared.place.Place.TheVariants.{New as place_new, Full as place_full}
use Rattle.bcl_map.specs.Map.{Words, places, size}
use Rattle.bcl_map.specs.Calls.{Stands}
use Rattle.bcl_map.specs.Costs.{taken}
use Rattle.bcl_map.specs.Finds.{value_of}
use Rattle.bcl_map.proofs.Reached.{ends_behind, comes_still}
use Rattle.bcl_map.proofs.Done.{placed_most, gets_of_lost}
use Rattle.bcl_map.proofs.merge.merge_key.Goals as goal

pub place_of-requires-clause-words : goal.place_of-requires-clause-words
place_of-requires-clause-words g c κs within = let is = c.to_words-words.ensures.words in let passes = ap g.K.Object.passes is ∙ c.to_words-words.ensures.passes in (g.K.Object.shape c.requires.key _ passes, passes)

pub place_of-requires-clause-value_words : goal.place_of-requires-clause-value_words
place_of-requires-clause-value_words g c κs within = let is = c.to_words-value_words.ensures.words in let passes = ap g.V.Object.passes is ∙ c.to_words-value_words.ensures.passes in (g.V.Object.shape c.requires.value _ passes, passes)

pub replace-requires-clause-words : goal.replace-requires-clause-words
replace-requires-clause-words g c κs within = let is = c.to_words-words.ensures.words in let passes = ap g.K.Object.passes is ∙ c.to_words-words.ensures.passes in (g.K.Object.shape c.requires.key _ passes, passes)

pub replace-requires-clause-put_words : goal.replace-requires-clause-put_words
replace-requires-clause-put_words g c κs within = let is = c.to_words-merged.ensures.words in let passes = ap g.V.Object.passes is ∙ c.to_words-merged.ensures.passes in (g.V.Object.shape c.requires.value _ passes, passes)

pub replace-requires-clause-stores : goal.replace-requires-clause-stores
replace-requires-clause-stores g c κs within t there =
    let op = g.L.MergeLaw.op in let k = c.to_words-words.result in let v = c.to_words-value_words.result in
    let old = value_of (pass_view c.old_value-old.new.pass).note.claims in
    let is_old : g.V.Object.words c.old_value-old.result ≡ old = c.old_value-old.ensures.words ∙ ap value_of (sym c.old_value-old.ensures.reads) in
    let merged : op old v ≡ c.to_words-merged.result = sym (c.to_words-merged.ensures.words ∙ (c.apply.ensures ∙ ap₂ op is_old (sym c.to_words-value_words.ensures.words))) in
    ap (stored (places (lead_key c.args.lead.now)) k v (λ (o : Words). op o v) t) there ∙ ap (λ (m : Words). (Replaced, with_value k m t)) merged

pub returns-in-New-clause-atomics : goal.returns-in-New-clause-atomics
returns-in-New-clause-atomics g c = let lead = c.args.lead.now in
    placed_most g.L.MergeLaw.op (lead_key lead) (pass_view c.args.pass.now) (pass_view c.place_of.new.pass) (size g.K.Object.WORDS g.V.Object.WORDS) (lead_layout lead) (Merge c.to_words-words.result c.to_words-value_words.result) c.to_words-words.result place_new c.in-New.ensures.placed

pub returns-in-New-clause-gets : goal.returns-in-New-clause-gets
returns-in-New-clause-gets g c = let u = pass_view c.args.pass.now in let w = pass_view c.place_of.new.pass in
    gets_of_lost u.gets (places (lead_key c.args.lead.now) * (1 + g.K.Object.WORDS)) u.atomics w.gets w.atomics (taken u w) g.V.Object.WORDS c.in-New.ensures.gets (returns-in-New-clause-atomics g c) c.requires.value.least

pub returns-in-Here-clause-stands : goal.returns-in-Here-clause-stands
returns-in-Here-clause-stands g c = let op = g.L.MergeLaw.op in let L = lead_key c.args.lead.now in let u = pass_view c.args.pass.now in let z = pass_view c.replace.new.pass in
    let v = pass_view c.place_of.new.pass in let w = pass_view c.old_value-old.new.pass in let got = c.old_value-old.ensures in
    let ends = ends_behind op L (Merge c.to_words-words.result c.to_words-value_words.result) Replaced u w z (comes_still op L u v w c.in-Here.ensures.placed.1 got.still got.atomics got.reads) c.replace.ensures.ends in
    subst (λ (s : List ℕ × List ℕ). Stands op L u z (event u.rank (Merge s.0 s.1) Replaced ∷ [])) (λ j. (c.to_words-words.ensures.words j, c.to_words-value_words.ensures.words j)) ends.stands

pub returns-in-Full-clause-atomics : goal.returns-in-Full-clause-atomics
returns-in-Full-clause-atomics g c = let lead = c.args.lead.now in
    placed_most g.L.MergeLaw.op (lead_key lead) (pass_view c.args.pass.now) (pass_view c.place_of.new.pass) (size g.K.Object.WORDS g.V.Object.WORDS) (lead_layout lead) (Merge c.to_words-words.result c.to_words-value_words.result) c.to_words-words.result place_full c.in-Full.ensures.placed

pub returns-in-Full-clause-gets : goal.returns-in-Full-clause-gets
returns-in-Full-clause-gets g c = let u = pass_view c.args.pass.now in let w = pass_view c.place_of.new.pass in let few = returns-in-Full-clause-atomics g c in
    gets_of_lost u.gets (places (lead_key c.args.lead.now) * (1 + g.K.Object.WORDS)) u.atomics w.gets w.atomics (taken u w) g.V.Object.WORDS c.in-Full.ensures.gets (omega arith) c.requires.value.least
