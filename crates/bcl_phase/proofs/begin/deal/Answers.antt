use Rattle.std.proofs.Common.{◌≡◌, ℕ, ◌+◌, length, [], ◌∷◌, refl, sym, ap, ◌∙◌, arith, length-append, le_trans}
use Rattle.bcl_segment.specs.declared.layout.Layout.{Layout}
use Rattle.bcl_segment.specs.Parts.{table_of, key_of, view_of, number_of}
use Rattle.bcl_phase.specs.Phases.{begun}
use Rattle.bcl_phase.specs.Parts.{pass_view, pass_table, pass_layout}
use Rattle.bcl_phase.proofs.Homes.{splits}
use Rattle.bcl_phase.proofs.Returns.{own_cut, laid_as, placed, cut_is, recounted}
use Rattle.bcl_phase.proofs.begin.deal.Goals as goal

pub split-pass-requires-clause-rule : goal.split-pass-requires-clause-rule
split-pass-requires-clause-rule g c = let h = c.requires.home in let I = c.loop-rank.invariant in
    let out : (view_of c.loop-rank.seat).passes ≡ c.loop-rank.rank = λ i. (I.view i).passes in
    let rank : (view_of c.loop-rank.seat).rank ≡ c.args.layout.ranks = (λ i. (I.view i).rank) ∙ (h.0.3 ∙ ap (λ (z : Layout). z.ranks) (sym h.1)) in
    splits _ _ _ _ _ g.R.Phased.rest (key_of c.args.segments.now) g.R.TableRule.holds g.met.R.Phased.from g.met.R.Phased.back (number_of c.loop-rank.seat) (view_of c.loop-rank.seat)
    (I.seat.1 ∙ h.0.1) (omega arith) ((λ i. (I.view i).back) ∙ c.requires.begins.1) ((λ i. (I.view i).words) ∙ c.requires.begins.3) ((λ i. (I.view i).loose) ∙ c.requires.begins.4) (g.R.Phased.admits (key_of c.args.segments.now))

pub loop-rank-preserved : goal.loop-rank-preserved
loop-rank-preserved g c = let h = c.requires.home in let I = c.loop-rank.invariant in let split = c.split-pass.ensures in
    let n : ℕ = length c.loop-rank.passes.items in
    let count : n ≡ c.loop-rank.rank = I.count in
    let more : length c.push.new.self.items ≡ n + 1 = ap length c.in-Ok.ensures.items ∙ length-append c.loop-rank.passes.items (c.wrap.result ∷ []) in
    let held = c.wrap.ensures.inner in
    let room = I.room in
    let at : view_of c.split-pass.result ≡ begun g.R.Phased.rest g.P.Promise.CODE (key_of c.args.segments.now) (view_of c.args.seat.now).seen n =
    split.right ∙ cut_is (view_of c.args.seat.now) (view_of c.loop-rank.seat) _ _ _ n c.requires.begins.0 h.0.2 (I.view ∙ (λ i. record (view_of c.args.seat.now) { passes = sym count i })) in record {
      seat = (split.same.0 ∙ I.seat.0, split.same.1 ∙ I.seat.1);
      view = split.left ∙ recounted (view_of c.args.seat.now) (view_of c.loop-rank.seat) c.loop-rank.rank (c.loop-rank.rank + 1) I.view refl;
      count = more ∙ ap (λ (z : ℕ). z + 1) count;
      room = le_trans room c.in-Ok.ensures.capacity;
      dealt = placed _ c.loop-rank.passes.items _ c.wrap.result c.in-Ok.ensures.items I.dealt
          ((λ i. pass_table (held i).pass) ∙ (ap table_of c.seated.ensures.seat ∙ split.new), (λ i. pass_layout (held i).pass) ∙ c.seated.ensures.layout, (λ i. pass_view (held i).pass) ∙ (ap view_of c.seated.ensures.seat ∙ at));
    }

pub seated-requires-clause-laid : goal.seated-requires-clause-laid
seated-requires-clause-laid g c = laid_as _ _ _ _ (key_of c.args.segments.now) _ ((λ i. (c.split-pass.ensures.right i).key) ∙ ((λ i. (c.loop-rank.invariant.view i).key) ∙ c.requires.home.0.2)) c.requires.laid

pub seated-requires-clause-own : goal.seated-requires-clause-own
seated-requires-clause-own g c = own_cut _ (view_of c.loop-rank.seat) _ c.split-pass.ensures.right
