use Rattle.std.proofs.Common.{◌∙◌}
use Rattle.bcl_segment.specs.Parts.{number_of, key_of, view_of, word_of}
use Rattle.bcl_phase.specs.Views.{get}
use Rattle.bcl_phase.proofs.Homes.{home_moves}
use Rattle.bcl_phase.proofs.home.Home.get.Goals as goal

pub get-requires-clause-rule : goal.get-requires-clause-rule
get-requires-clause-rule g c = let it = c.args.self.now.owned in
    home_moves _ _ _ _ _ g.R.Phased.rest (key_of it.segments) g.R.TableRule.holds g.met.R.Phased.from g.met.R.Phased.back (number_of it.seat) get (view_of it.seat) (word_of it.segments c.args.spot) (λ n. n) (λ n t did. g.M.Learns.then n t did g.R.Phased.rest)
    it.seated.1 c.args.self.now.alone c.args.self.now.whole it.seated.2 c.args.self.now.at_home c.requires.step

pub invariant_of-owned : goal.invariant_of-owned
invariant_of-owned g c = let it = c.args.self.now.owned in let told = c.get.ensures.told _ it.seated.2 in let same = c.get.ensures.same in record {
  seated = (same.0 ∙ it.seated.0, same.1 ∙ it.seated.1, (λ i. (told.after i).key) ∙ it.seated.2, (λ i. (told.after i).rank) ∙ it.seated.3);
  shape = it.shape;
  front = it.front;
  laid = it.laid;
}

pub invariant_of-self : goal.invariant_of-self
invariant_of-self g c = let told = c.get.ensures.told _ c.args.self.now.owned.seated.2 in record { alone = (λ i. (told.after i).passes) ∙ c.args.self.now.alone; whole = (λ i. (told.after i).loose) ∙ c.args.self.now.whole; at_home = (λ i. (told.after i).promise) ∙ c.args.self.now.at_home }

pub returns-clause-told : goal.returns-clause-told
returns-clause-told g c = c.get.ensures.told _ c.args.self.now.owned.seated.2
