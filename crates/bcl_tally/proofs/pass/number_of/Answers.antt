use Rattle.bcl_phase.specs.Parts.{lead_key, lead_heads, lead_layout}
use Rattle.bcl_tally.proofs.Fits.{place_is, spot_is}
use Rattle.bcl_tally.proofs.pass.number_of.Goals as goal

pub returns-clause-spot : goal.returns-clause-spot
returns-clause-spot c = spot_is (lead_key c.args.lead.now) (lead_heads c.args.lead.now) (lead_layout c.args.lead.now) c.args.rank c.args.lead.now.laid c.requires.below

pub returns-clause-word : goal.returns-clause-word
returns-clause-word c = place_is (lead_key c.args.lead.now) (lead_heads c.args.lead.now) (lead_layout c.args.lead.now) c.args.rank c.args.lead.now.laid
