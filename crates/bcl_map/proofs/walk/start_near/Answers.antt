use Rattle.std.proofs.Common.{◌+◌, ◌≤◌, arith}
use Rattle.bcl_phase.specs.Parts.{lead_key, lead_heads, lead_layout}
use Rattle.bcl_map.specs.Map.{path}
use Rattle.bcl_map.proofs.Looks.{small, spot_is}
use Rattle.bcl_map.proofs.walk.start_near.Goals as goal

pub word_of-requires : goal.word_of-requires
word_of-requires g c = record { room = let all = small g.K.Object.WORDS g.V.Object.WORDS (lead_heads c.args.lead.now) (lead_layout c.args.lead.now) (lead_key c.args.lead.now) c.requires.shape c.walk_from-walk.result.first.at _ c.walk_from-walk.ensures.at in omega arith }

pub prefetch-requires : goal.prefetch-requires
prefetch-requires g c = let lead = c.args.lead.now in record {
  spot = spot_is g.K.Object.WORDS g.V.Object.WORDS (lead_heads lead) (lead_layout lead) (lead_key lead) c.requires.shape c.walk_from-walk.result.first.at (path (lead_key lead) c.args.key.now 0) 0 c.word_of.result c.walk_from-walk.ensures.at c.word_of.ensures.spot (omega arith);
}
