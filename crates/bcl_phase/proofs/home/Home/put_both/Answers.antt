use Rattle.std.proofs.Common.{◌≡◌, ◌∙◌, sym, subst, Some, slice_set}
use Rattle.std.specs.Prelude.{[]}
use Rattle.bcl_event.specs.History.{state_after}
use Rattle.bcl_segment.specs.Parts.{number_of, key_of, view_of, word_of}
use Rattle.bcl_phase.specs.declared.view.View.{View}
use Rattle.bcl_phase.specs.Views.{put, words_of, loosened, loose_after}
use Rattle.bcl_phase.proofs.LooseHomes.{loosens, loose_puts, pair_puts, MendTold}
use Rattle.bcl_phase.proofs.home.Home.put_both.Goals as goal

pub get-requires-clause-rule : goal.get-requires-clause-rule
get-requires-clause-rule g c = let it = c.args.self.now.owned in
    loosens _ _ _ _ _ g.R.Phased.rest (key_of it.segments) g.R.TableRule.holds g.met.R.Phased.from g.met.R.Phased.back (number_of it.seat) (view_of it.seat) _
    it.seated.1 c.args.self.now.alone c.args.self.now.whole it.seated.2

pub put-requires-clause-rule : goal.put-requires-clause-rule
put-requires-clause-rule g c = let it = c.args.self.now.owned in let told = c.get.ensures.told in
    loose_puts _ _ _ _ _ g.R.Phased.rest (key_of it.segments) g.R.TableRule.holds g.met.R.Phased.from g.met.R.Phased.back (number_of c.get.new.seat) (view_of c.get.new.seat) (word_of it.segments c.args.first) c.args.word _
    (c.get.ensures.same.1 ∙ it.seated.1) ((λ i. (told.1 i).passes) ∙ c.args.self.now.alone) ((λ i. (told.1 i).words) ∙ (λ i. Some (words_of (sym told.1 i))))

pub put-requires-2-clause-rule : goal.put-requires-2-clause-rule
put-requires-2-clause-rule g c = let it = c.args.self.now.owned in let told = c.get.ensures.told in
    pair_puts _ _ _ _ _ g.R.Phased.rest (key_of it.segments) g.R.TableRule.holds g.met.R.Phased.from g.met.R.Phased.back (number_of c.put.new.seat) (view_of it.seat) (view_of c.put.new.seat) (word_of it.segments c.args.first) c.args.word (word_of it.segments c.args.second) c.args.other told.0
    (λ t did. g.M.Learns.then c.args.other t did g.R.Phased.rest)
    (c.put.ensures.same.1 ∙ (c.get.ensures.same.1 ∙ it.seated.1)) c.args.self.now.alone it.seated.2
    (c.put.ensures.told ∙ (λ i. loose_after put (slice_set (words_of (told.1 i)) (word_of it.segments c.args.first) c.args.word) (told.1 i)))
    told.2 c.args.self.now.at_home (told.3 (key_of it.segments) it.seated.2) c.requires.step

pub returns-clause-told : goal.returns-clause-told
returns-clause-told g c =
    let it = c.args.self.now.owned in let told = c.get.ensures.told in let k = key_of it.segments in let w = view_of c.put-2.new.seat in
    let is : view_of c.put.new.seat ≡ loose_after put (slice_set told.0 (word_of it.segments c.args.first) c.args.word) (loosened told.0 (view_of it.seat)) =
    c.put.ensures.told ∙ (λ i. loose_after put (slice_set (words_of (told.1 i)) (word_of it.segments c.args.first) c.args.word) (told.1 i)) in
    let made = subst (λ (z : View _ _ _ _). MendTold _ _ _ _ _ g.R.Phased.rest k g.R.TableRule.holds g.met.R.Phased.from g.met.R.Phased.back (λ t did. g.M.Learns.then c.args.other t did g.R.Phased.rest) z (word_of it.segments c.args.second) c.args.other w) is c.put-2.ensures.told k it.seated.2 in
    record { words = told.0; known = told.2; fit = subst (λ z. g.R.Phased.fits k z told.0 (state_after (g.R.Phased.next k) (g.R.Phased.start k) (view_of it.seat).seen) []) c.args.self.now.at_home (told.3 k it.seated.2); did = made.0; fact = made.1; after = made.2; legal = made.3 }
