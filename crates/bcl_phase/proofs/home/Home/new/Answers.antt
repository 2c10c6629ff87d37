use Rattle.std.proofs.Common.{ℕ, ◌∙◌, sym, ap, subst, Some}
use Rattle.bcl_segment.specs.declared.layout.Layout.{Layout}
use Rattle.bcl_segment.specs.Parts.{key_of}
use Rattle.bcl_phase.specs.Seats.{IsLaid}
use Rattle.bcl_phase.proofs.Keeps.{opens_as}
use Rattle.bcl_phase.proofs.home.Home.new.Goals as goal

pub new-requires-clause-rule : goal.new-requires-clause-rule
new-requires-clause-rule g c = let key = c.args.about.now in
    g.met.R.Phased.back key _ (opens_as _ _ _ _ _ key c.args.words.items g.R.Phased.rest _ (g.met.R.Phased.opens key) c.requires.fits)

pub invariant_of-result : goal.invariant_of-result
invariant_of-result g c = let e = c.in_ok-segments.ensures in let view = e.view ∙ g.met.R.Phased.opens c.args.about.now in record {
  seated = (e.seat, e.number, (λ i. (view i).key) ∙ ap Some (sym e.key), (λ i. (view i).rank) ∙ (c.requires.key ∙ ap (λ (z : Layout). z.ranks) (sym e.layout)));
  shape = sym e.layout;
  front = sym e.heads;
  laid = subst (λ (z : Layout × ℕ). IsLaid (g.R.Phased.sound (key_of c.in_ok-segments.segments)) (g.R.Phased.heads (key_of c.in_ok-segments.segments)) (g.R.Phased.layout (key_of c.in_ok-segments.segments)) z.1 z.0) (λ i. (sym e.layout i, sym e.heads i))
      record { sound = ap g.R.Phased.sound e.key ∙ c.requires.sound; as_heads = c.requires.laid.0 ∙ ap g.R.Phased.heads (sym e.key); as_layout = c.requires.laid.1 ∙ ap g.R.Phased.layout (sym e.key); manned = c.requires.ranks.0; some = c.requires.count.0; few = c.requires.count.1 };
}

pub invariant_of-result-2 : goal.invariant_of-result-2
invariant_of-result-2 g c = let view = c.in_ok-segments.ensures.view ∙ g.met.R.Phased.opens c.args.about.now in record { alone = λ i. (view i).passes; whole = λ i. (view i).loose; at_home = λ i. (view i).promise }
