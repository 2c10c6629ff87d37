use Rattle.std.proofs.Common.{refl, ℕ, List, ◌∙◌, ap}
use Rattle.std.specs.Prelude.{take}
use Rattle.std.specs.Prelude.{◌==◌, ◌||◌}
use Rattle.std.specs.List.{list_any}
use Rattle.bcl_words.specs.Hash.{hash_of}
use Rattle.bcl_words.proofs.Fitting.{fits_of}
use Rattle.bcl_segment.specs.Places.{places}
use Rattle.bcl_event.specs.declared.filter.FilterCall.TheVariants.{Insert}
use Rattle.bcl_event.specs.Filter.{four_bits}
use Rattle.bcl_event.specs.SeqFilter.{has_bit}
use Rattle.bcl_phase.specs.Views.{atomic}
use Rattle.bcl_phase.specs.Parts.{lead_key, lead_heads, lead_layout, pass_view}
use Rattle.bcl_bloom.proofs.Blocks.{block_is, block_within, inserts, answers_stand}
use Rattle.bcl_bloom.proofs.Founds.{is_found}
use Rattle.bcl_bloom.proofs.pass.FilterPass+Any+K.insert.Goals as goal

pub fetch_or-old-requires-clause-step : goal.fetch_or-old-requires-clause-step
fetch_or-old-requires-clause-step g c = let v = pass_view c.args.self.now.pass.pass in
    inserts g.K.Object.WORDS (lead_key c.args.lead.now.lead) v.promise v.rank _ (g.K.Object.words c.args.key.now) c.args.self.now.pass.pass.pass.1
    (block_is (lead_heads c.args.lead.now.lead) c.key_hash-h.result (hash_of (take g.K.Object.WORDS (g.K.Object.words c.args.key.now))) (lead_layout c.args.lead.now.lead) (lead_key c.args.lead.now.lead) c.layout.result c.block_of-block.result _ c.args.lead.now.lead.laid (c.layout.ensures.layout ∙ c.requires.of.2) (c.key_hash-h.ensures.hash ∙ ap (λ (w : List ℕ). hash_of (take g.K.Object.WORDS w)) c.to_words.ensures.words) c.block_of-block.ensures.word)
    c.with_bits-marks.result (block_within (lead_heads c.args.lead.now.lead) c.key_hash-h.result (hash_of (take g.K.Object.WORDS (g.K.Object.words c.args.key.now))) (lead_layout c.args.lead.now.lead) (lead_key c.args.lead.now.lead) c.layout.result c.block_of-block.result _ c.args.lead.now.lead.laid (c.layout.ensures.layout ∙ c.requires.of.2) (c.key_hash-h.ensures.hash ∙ ap (λ (w : List ℕ). hash_of (take g.K.Object.WORDS w)) c.to_words.ensures.words) c.block_of-block.ensures.word c.block_of-block.ensures.within)
    (λ bit. c.with_bits-marks.ensures.bits bit ∙ ap (λ (l : List ℕ). list_any (λ other. bit == other) l || has_bit 0 bit) (c.bits_of-bits.ensures.bits ∙ ap four_bits (c.key_hash-h.ensures.hash ∙ ap (λ (w : List ℕ). hash_of (take g.K.Object.WORDS w)) c.to_words.ensures.words)))

pub returns-clause-stands : goal.returns-clause-stands
returns-clause-stands g c = answers_stand g.K.Object.WORDS (lead_key c.args.lead.now.lead) atomic (pass_view c.args.self.now.pass.pass) (pass_view c.fetch_or-old.new.self) (Insert (g.K.Object.words c.args.key.now)) (g.K.Object.words c.args.key.now) c.fetch_or-old.result c.key_hash-h.result c.bits_of-bits.result c.are_set.result
    c.fetch_or-old.ensures.took c.fetch_or-old.ensures.told (c.key_hash-h.ensures.hash ∙ ap (λ (w : List ℕ). hash_of (take g.K.Object.WORDS w)) c.to_words.ensures.words) c.bits_of-bits.ensures.bits c.are_set.ensures.all

pub returns-clause-again : goal.returns-clause-again
returns-clause-again g c = let width = g.K.Object.WORDS in let key = g.K.Object.words c.args.key.now in let layout = lead_key c.args.lead.now.lead in
    is_found width layout key
    (λ keys. c.inserted_keys_are_present.ensures.inserted (places layout) width keys key)
    (λ keys other. c.inserted_keys_are_present.ensures.stays (places layout) width keys key other)
    (pass_view c.args.self.now.pass.pass) (pass_view c.fetch_or-old.new.self) (pass_view c.args.self.now.pass.pass).rank (Insert key) c.are_set.result (λ keys. refl) (returns-clause-stands g c)

pub key_hash-h-requires-clause-fits : goal.key_hash-h-requires-clause-fits
key_hash-h-requires-clause-fits g c κs outlives = fits_of g.K.Object.WORDS c.args.lead.now.lead.laid.sound
