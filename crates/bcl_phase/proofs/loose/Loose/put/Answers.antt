use Rattle.bcl_segment.specs.Parts.{number_of, key_of, view_of, word_of}
use Rattle.bcl_phase.proofs.LooseHomes.{loose_puts}
use Rattle.bcl_phase.proofs.loose.Loose.put.Goals as goal

pub put-requires-clause-rule : goal.put-requires-clause-rule
put-requires-clause-rule g c = let it = c.args.self.now.owned in
    loose_puts _ _ _ _ _ g.R.Phased.rest (key_of it.segments) g.R.TableRule.holds g.met.R.Phased.from g.met.R.Phased.back (number_of it.seat) (view_of it.seat) (word_of it.segments c.args.spot) c.args.word _
    it.seated.1 c.args.self.now.alone c.args.self.now.known
