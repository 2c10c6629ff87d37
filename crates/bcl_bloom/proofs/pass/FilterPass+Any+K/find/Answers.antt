use Rattle.std.proofs.Common.{refl, ◌∙◌, ℕ, List, ap}
use Rattle.std.specs.Prelude.{take}
use Rattle.bcl_words.specs.Hash.{hash_of}
use Rattle.bcl_words.proofs.Fitting.{fits_of}
use Rattle.bcl_segment.specs.Places.{places}
use Rattle.bcl_event.specs.declared.filter.FilterCall.TheVariants.{Find}
use Rattle.bcl_phase.specs.Views.{get}
use Rattle.bcl_phase.specs.Parts.{lead_key, lead_heads, lead_layout, pass_view}
use Rattle.bcl_bloom.proofs.Blocks.{block_is, finds, answers_stand}
use Rattle.bcl_bloom.proofs.Founds.{is_found}
use Rattle.bcl_bloom.proofs.pass.FilterPass+Any+K.find.Goals as goal

pub get-word-requires-clause-step : goal.get-word-requires-clause-step
get-word-requires-clause-step g c = let v = pass_view c.args.self.now.pass.pass in
    finds g.K.Object.WORDS (lead_key c.args.lead.now.lead) v.promise v.rank _ (g.K.Object.words c.args.key.now) c.args.self.now.pass.pass.pass.1
    (block_is (lead_heads c.args.lead.now.lead) c.key_hash-h.result (hash_of (take g.K.Object.WORDS (g.K.Object.words c.args.key.now))) (lead_layout c.args.lead.now.lead) (lead_key c.args.lead.now.lead) c.layout.result c.block_of-block.result _ c.args.lead.now.lead.laid (c.layout.ensures.layout ∙ c.requires.of.2) (c.key_hash-h.ensures.hash ∙ ap (λ (w : List ℕ). hash_of (take g.K.Object.WORDS w)) c.to_words.ensures.words) c.block_of-block.ensures.word)

pub returns-clause-stands : goal.returns-clause-stands
returns-clause-stands g c = answers_stand g.K.Object.WORDS (lead_key c.args.lead.now.lead) get (pass_view c.args.self.now.pass.pass) (pass_view c.get-word.new.self) (Find (g.K.Object.words c.args.key.now)) (g.K.Object.words c.args.key.now) c.get-word.result c.key_hash-h.result c.bits_of-bits.result c.are_set.result
    c.get-word.ensures.took c.get-word.ensures.told (c.key_hash-h.ensures.hash ∙ ap (λ (w : List ℕ). hash_of (take g.K.Object.WORDS w)) c.to_words.ensures.words) c.bits_of-bits.ensures.bits c.are_set.ensures.all

pub returns-clause-found : goal.returns-clause-found
returns-clause-found g c = let width = g.K.Object.WORDS in let key = g.K.Object.words c.args.key.now in let layout = lead_key c.args.lead.now.lead in
    is_found width layout key
    (λ keys. c.inserted_keys_are_present.ensures.inserted (places layout) width keys key)
    (λ keys other. c.inserted_keys_are_present.ensures.stays (places layout) width keys key other)
    (pass_view c.args.self.now.pass.pass) (pass_view c.get-word.new.self) (pass_view c.args.self.now.pass.pass).rank (Find key) c.are_set.result (λ keys. refl) (returns-clause-stands g c)

pub key_hash-h-requires-clause-fits : goal.key_hash-h-requires-clause-fits
key_hash-h-requires-clause-fits g c κs outlives = fits_of g.K.Object.WORDS c.args.lead.now.lead.laid.sound
