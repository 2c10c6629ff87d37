use Rattle.std.proofs.Common.{◌≡◌, ap, ◌∙◌, Some}
use Rattle.bcl_event.specs.Map.{Pairs}
use Rattle.bcl_phase.specs.Views.{words_of}
use Rattle.bcl_phase.specs.Parts.{home_view, home_words, home_key, closed_view}
use Rattle.bcl_map.specs.Map.{places}
use Rattle.bcl_map.specs.Calls.{MapView}
use Rattle.bcl_map.specs.Closed.{pairs_to, in_words}
use Rattle.bcl_map.proofs.Seated.{key_fits, value_fits}
use Rattle.bcl_map.proofs.Closes.{replay_of, once_of}
use Rattle.bcl_map.proofs.home.MapHome.close.Goals as goal

pub invariant_of-result-2 : goal.invariant_of-result-2
invariant_of-result-2 g c = let kw = g.K.Object.WORDS in let vw = g.V.Object.WORDS in let L = home_key c.args.self.home in let v : MapView = home_view c.args.self.home in
    let learned = c.learn.new.self in let ws = home_words learned in let w : MapView = closed_view c.close.result in let listed = c.list_pairs.ensures in
    let view : w ≡ home_view learned = c.close.ensures.view ∙ listed.view in
    let same : home_key learned ≡ L = c.learn.ensures.same.1 in
    let seen : w.seen ≡ v.seen = (λ i. (view i).seen) ∙ (λ i. (c.learn.ensures.view i).seen) in
    let words : words_of w ≡ ws = λ i. words_of (view i) in
    let of : w.key ≡ Some L = c.close.ensures.key ∙ ap Some (listed.same.1 ∙ same) in
    let entries : Pairs = in_words g.K.Object.words g.V.Object.words c.in-Ok.pairs.items in
    let are : entries ≡ pairs_to kw vw ws (places L) = c.in-Ok.ensures.pairs ∙ (λ i. pairs_to kw vw ws (places (same i))) in record {
      replay = replay_of kw vw g.K.Object.passes g.V.Object.passes g.L.MergeLaw.op L v w 0 ws c.learn.ensures.fit (key_fits kw vw L c.args.self.home.owned.laid.sound).most (value_fits kw vw L c.args.self.home.owned.laid.sound).most seen words of entries are;
      once = once_of kw vw g.K.Object.passes g.V.Object.passes g.L.MergeLaw.op L v w 0 ws c.learn.ensures.fit (key_fits kw vw L c.args.self.home.owned.laid.sound).most (value_fits kw vw L c.args.self.home.owned.laid.sound).most seen words of entries are;
    }
