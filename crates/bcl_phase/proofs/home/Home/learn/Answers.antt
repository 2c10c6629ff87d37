use Rattle.bcl_segment.specs.Parts.{number_of, key_of, view_of}
use Rattle.bcl_phase.proofs.LooseHomes.{learns}
use Rattle.bcl_phase.proofs.home.Home.learn.Goals as goal

pub get-requires-clause-rule : goal.get-requires-clause-rule
get-requires-clause-rule g c = let it = c.args.self.now.owned in
    learns _ _ _ _ _ g.R.Phased.rest (key_of it.segments) g.R.TableRule.holds g.met.R.Phased.from g.met.R.Phased.back (number_of it.seat) (view_of it.seat) _
    it.seated.1 c.args.self.now.alone c.args.self.now.whole it.seated.2
