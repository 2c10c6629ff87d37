use Rattle.std.proofs.Common.{true, rules, ◌≡◌, ◌+◌, length, [], ◌∷◌, refl, sym, ap, ◌∙◌, arith, length-append, inl, inr, ⊎_elim}
use Rattle.bcl_segment.specs.declared.layout.Layout.{Layout}
use Rattle.bcl_segment.specs.Parts.{table_of, number_of, key_of, view_of}
use Rattle.bcl_phase.specs.Parts.{pass_view, pass_table}
use Rattle.bcl_phase.proofs.Homes.{joins}
use Rattle.bcl_phase.proofs.Returns.{told, none_taken, last_placed, rest_placed, told_more, came_back}
use Rattle.bcl_phase.proofs.lead.Lead.gather.Goals as goal

pub loop-pass-init : goal.loop-pass-init
loop-pass-init g c = let it = c.args.self in let woke = c.wake-seat.ensures.seat in record {
  seat = (woke.0 ∙ it.seated.0, woke.1 ∙ it.seated.1, (λ i. (woke.2 i).key) ∙ it.seated.2, (λ i. (woke.2 i).rank) ∙ it.seated.3);
  out = (λ i. (woke.2 i).passes) ∙ (it.shared ∙ (ap (λ (z : Layout). z.ranks) it.shape ∙ sym c.requires.all.count));
  whole = (λ i. (woke.2 i).loose) ∙ it.whole;
  start = refl;
  promise = inl refl;
  taken = none_taken _ _ ((λ i. (woke.2 i).back) ∙ it.none_back);
  left = λ i p e. ((c.requires.all.of i p e).0.0, (c.requires.all.of i p e).1);
}

pub join-requires-clause-other : goal.join-requires-clause-other
join-requires-clause-other g c = let I = c.loop-pass.invariant in
    let last = last_placed _ _ _ _ c.in-Some.ensures.items I.left in
    ap table_of c.into_seat.ensures.seat ∙ ((λ i. pass_table (c.into_inner.ensures.inner i).pass) ∙ last.0)

pub join-requires-clause-rule : goal.join-requires-clause-rule
join-requires-clause-rule g c = let I = c.loop-pass.invariant in let e = c.into_seat.ensures.seat in let held = c.into_inner.ensures.inner in let it = c.into_inner.result.pass.pass in
    let last = last_placed _ _ _ _ c.in-Some.ensures.items I.left in
    let count : length c.loop-pass.passes.items ≡ length c.pop.new.self.items + 1 = ap length c.in-Some.ensures.items ∙ length-append c.pop.new.self.items (c.in-Some.pass ∷ []) in
    let out : (view_of c.loop-pass.seat).passes ≡ length c.loop-pass.passes.items = I.out in
    let rank : (view_of c.into_seat.result).rank ≡ length c.pop.new.self.items = (λ i. (view_of (e i)).rank) ∙ ((λ i. (pass_view (held i).pass).rank) ∙ last.1) in
    joins _ _ _ _ _ g.R.Phased.rest (key_of c.args.self.segments) g.R.TableRule.holds g.met.R.Phased.from g.met.R.Phased.back (λ p x. g.R.Phased.idle p x ≡ true) (number_of c.loop-pass.seat) (view_of c.loop-pass.seat) (number_of c.into_seat.result) (view_of c.into_seat.result)
    I.seat.1 ((λ i. (view_of (e i)).role) ∙ it.0) (omega arith) ((λ i. g.R.Phased.idle ((ap view_of e i).promise) ((ap view_of e i).note)) ∙ ((λ i. g.R.Phased.idle (it.1 i) (pass_view c.into_inner.result.pass).note) ∙ c.into_inner.result.idle)) (g.R.Phased.releases (key_of c.args.self.segments))

pub loop-pass-preserved : goal.loop-pass-preserved
loop-pass-preserved g c = let I = c.loop-pass.invariant in let e = c.into_seat.ensures.seat in let held = c.into_inner.ensures.inner in let same = c.join.ensures.same in let w = c.join.ensures.both in
    let last = last_placed _ _ _ _ c.in-Some.ensures.items I.left in let it = c.into_inner.result.pass.pass in record {
      seat = (same.0 ∙ I.seat.0, same.1 ∙ I.seat.1, (λ i. (w i).key) ∙ I.seat.2, (λ i. (w i).rank) ∙ I.seat.3);
      out = (λ i. (w i).passes) ∙ ((λ i. (view_of (e i)).rank) ∙ ((λ i. (pass_view (held i).pass).rank) ∙ last.1));
      whole = (λ i. (w i).loose) ∙ I.whole;
      start = (λ i. (w i).start) ∙ I.start;
      promise = inr ((λ i. (w i).promise) ∙ ((λ i. (view_of (e i)).promise) ∙ it.1));
      taken = told_more (λ p. told (pass_view (g.W.Wraps.inner p).pass)) c.args.passes.items c.loop-pass.passes.items c.pop.new.self.items c.in-Some.pass (view_of c.loop-pass.seat).back (view_of c.join.new.seat).back c.in-Some.ensures.items I.taken
          ((λ i. (w i).back) ∙ ((λ i. told (view_of (e i)) ∷ (view_of c.loop-pass.seat).back) ∙ (λ i. told (pass_view (held i).pass) ∷ (view_of c.loop-pass.seat).back)));
      left = rest_placed _ _ _ _ c.in-Some.ensures.items I.left;
    }

pub returns-clause-back : goal.returns-clause-back
returns-clause-back g c = let I = c.loop-pass.invariant in let woke = c.wake-seat.ensures.seat.2 in let none : length c.loop-pass.passes.items ≡ 0 = search rules in record {
  promise = ⊎_elim (λ same. let all = c.requires.all.count in let some = c.args.self.laid.manned in absurd (omega arith)) (λ is. is) I.promise;
  start = I.start ∙ (λ i. (woke i).start);
  none = I.out ∙ none;
  whole = I.whole;
  back = came_back (λ p. told (pass_view (g.W.Wraps.inner p).pass)) c.args.passes.items c.loop-pass.passes.items (view_of c.loop-pass.seat).back I.taken none;
}
