use Rattle.std.proofs.Common.{◌≡◌, ℕ, ◌*◌, ap, arith}
use Rattle.bcl_words.proofs.Fitting.{fits_of}
use Rattle.bcl_phase.specs.Parts.{lead_key, lead_heads, lead_layout}
use Rattle.bcl_darray.proofs.Seated.{shaped_by}
use Rattle.bcl_darray.proofs.Blocks.{words_there, item_stands}
use Rattle.bcl_darray.proofs.read.ArrayPass+Read+T.read.Goals as goal

pub overflow_mul-at : goal.overflow_mul-at
overflow_mul-at g c = let lead = c.args.lead.now.lead in let shaped = shaped_by g.T.Object.WORDS (lead_heads lead) (lead_layout lead) (lead_key lead) lead.laid in record {
  fits = let wide : c.args.index * c.WORDS.result ≡ c.args.index * g.T.Object.WORDS = ap (λ (w : ℕ). c.args.index * w) c.WORDS.ensures in let few = shaped.few in
      let there = words_there g.T.Object.WORDS (lead_heads lead) (lead_layout lead) (lead_key lead) shaped (fits_of g.T.Object.WORDS lead.laid.sound).least c.args.index c.requires.within in omega arith;
}

pub read_item-requires-clause-at : goal.read_item-requires-clause-at
read_item-requires-clause-at g c κs outlives = let lead = c.args.lead.now.lead in
    item_stands g.T.Object.WORDS (lead_heads lead) (lead_layout lead) (lead_key lead) (shaped_by g.T.Object.WORDS (lead_heads lead) (lead_layout lead) (lead_key lead) lead.laid) (fits_of g.T.Object.WORDS lead.laid.sound).least _ c.args.index c.requires.within (ap (λ (w : ℕ). c.args.index * w) c.WORDS.ensures)

pub read_item-requires-clause-fits : goal.read_item-requires-clause-fits
read_item-requires-clause-fits g c κs outlives = fits_of g.T.Object.WORDS c.args.lead.now.lead.laid.sound
