use Rattle.std.proofs.Common.{◌∙◌, [], ◌∷◌, refl}
use Rattle.bcl_segment.specs.Parts.{number_of, key_of, view_of, word_of}
use Rattle.bcl_phase.specs.Views.{get, one_more}
use Rattle.bcl_phase.proofs.Returns.{stepped}
use Rattle.bcl_phase.proofs.Keeps.{moves}
use Rattle.bcl_phase.proofs.pass.Pass.get.Goals as goal

pub get-requires-clause-rule : goal.get-requires-clause-rule
get-requires-clause-rule g c = let it = c.args.self.now in let segments = c.args.lead.now.segments in
    moves _ _ _ _ _ (key_of segments) g.R.TableRule.holds g.met.R.Phased.from g.met.R.Phased.back (number_of it.seat) get (view_of it.seat) (word_of segments c.args.spot) (λ n. n) (one_more (view_of it.seat).found (word_of segments c.args.spot)) g.M.Learns.then it.pass.0 c.requires.of.1 (λ n. ((word_of segments c.args.spot, n) ∷ [], refl)) c.requires.step

pub invariant_of-self : goal.invariant_of-self
invariant_of-self g c = let it = c.args.self.now in let told = c.get.ensures.told _ c.requires.of.1 in
    let after = stepped _ _ _ _ _ it.layout _ get it.seat c.get.new.seat told.0 it.pass it.laid c.requires.of.1 in record { pass = after.0; within = it.within; own = told.0.own; laid = after.1 }

pub returns-clause-told : goal.returns-clause-told
returns-clause-told g c = (c.get.ensures.told _ c.requires.of.1).1

pub returns-clause-took : goal.returns-clause-took
returns-clause-took g c = (c.get.ensures.told _ c.requires.of.1).0

pub returns-clause-found : goal.returns-clause-found
returns-clause-found g c = (c.get.ensures.told _ c.requires.of.1).2

pub returns-clause-of : goal.returns-clause-of
returns-clause-of g c = let it = c.args.self.now in
    (c.get.ensures.same.0 ∙ c.requires.of.0, (stepped _ _ _ _ _ it.layout _ get it.seat c.get.new.seat (c.get.ensures.told _ c.requires.of.1).0 it.pass it.laid c.requires.of.1).2, c.requires.of.2)
