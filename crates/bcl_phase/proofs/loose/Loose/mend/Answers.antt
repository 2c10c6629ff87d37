use Rattle.std.proofs.Common.{ℕ, [], sym, subst}
use Rattle.bcl_event.specs.History.{state_after}
use Rattle.bcl_phase.specs.Parts.{loose_key, loose_words, loose_view}
use Rattle.bcl_segment.specs.Parts.{number_of, key_of, view_of}
use Rattle.bcl_phase.proofs.LooseHomes.{mends}
use Rattle.bcl_phase.proofs.loose.Loose.mend.Goals as goal

pub get-requires-clause-rule : goal.get-requires-clause-rule
get-requires-clause-rule g c = let it = c.args.self.owned in
    mends _ _ _ _ _ g.R.Phased.rest (key_of it.segments) g.R.TableRule.holds g.met.R.Phased.from g.met.R.Phased.back (number_of it.seat) (view_of it.seat) _ _
    it.seated.1 c.args.self.alone c.args.self.known (subst (λ (z : ℕ). g.R.Phased.fits (loose_key c.args.self) z (loose_words c.args.self) (state_after (g.R.Phased.next (loose_key c.args.self)) (g.R.Phased.start (loose_key c.args.self)) (loose_view c.args.self).seen) []) (sym c.args.self.at_home) c.requires.fit)
