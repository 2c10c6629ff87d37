use Rattle.std.proofs.Common.{◌≡◌, ◌∙◌, length, ap, sym, subst}
use mathlib.Core.Option.{some}
use lib.ListN.{get_elem?}
use Rattle.bcl_phase.proofs.Returns.{if_ok, if_both}
use Rattle.kmer_walk.proofs.Walkers.{ready, no_conflict, too_long, back, walks, texts_are, back_count, texts_count}
use Rattle.kmer_walk.proofs.walking.walked.Goals as goal

pub superstep_all-requires-clause-ready : goal.superstep_all-requires-clause-ready
superstep_all-requires-clause-ready g c κs outlives =
    ready c.args.nodes.now c.args.ranks c.args.passes.items c.args.starts.items c.in_ok-kits.kits.items c.in_ok-kits.ensures.passes c.in_ok-kits.ensures.starts c.in_ok-kits.ensures.made c.requires.ranks.1 c.requires.starts
    c.requires.asks (λ i p at. (c.requires.all.of i p at).0)

pub returns-clause-too_long : goal.returns-clause-too_long
returns-clause-too_long g c e =
    too_long c.args.nodes.now c.args.ranks c.args.passes.items c.args.starts.items c.in_ok-kits.kits.items c.in_ok-kits.ensures.passes c.in_ok-kits.ensures.starts c.in_ok-kits.ensures.made c.requires.ranks.1 c.requires.starts
    c.superstep_all.new.kits.items c.superstep_all.ensures.steps (c.walks_of.ensures.too_long e)

pub returns-clause-no_conflict : goal.returns-clause-no_conflict
returns-clause-no_conflict g c n e =
    no_conflict c.args.nodes.now c.args.ranks c.args.passes.items c.args.starts.items c.in_ok-kits.kits.items c.in_ok-kits.ensures.passes c.in_ok-kits.ensures.starts c.in_ok-kits.ensures.made c.requires.ranks.1 c.requires.starts
    c.superstep_all.new.kits.items c.superstep_all.ensures.steps n (c.walks_of.ensures.conflict n e)

pub returns-clause-all : goal.returns-clause-all
returns-clause-all g c = if_both c.walks_of.result _ _ _ c.walks_of.ensures.walked c.walks_of.ensures.passes (λ r good are. record {
  count = ap length are
      ∙ (back_count c.args.nodes.now c.args.ranks c.args.passes.items c.args.starts.items c.in_ok-kits.kits.items c.in_ok-kits.ensures.passes c.in_ok-kits.ensures.starts c.in_ok-kits.ensures.made c.requires.ranks.1 c.requires.starts
      c.superstep_all.new.kits.items c.superstep_all.ensures.steps ∙ (sym c.requires.ranks.1 ∙ c.requires.all.count));
  of = λ i q at. back c.args.nodes.now c.args.ranks c.args.passes.items c.args.starts.items c.in_ok-kits.kits.items c.in_ok-kits.ensures.passes c.in_ok-kits.ensures.starts c.in_ok-kits.ensures.made c.requires.ranks.1 c.requires.starts
      c.superstep_all.new.kits.items c.superstep_all.ensures.steps good (λ i p at. (c.requires.all.of i p at).1) i q (subst (λ l. get_elem? l i ≡ some q) are at);
})

pub returns-clause-walks : goal.returns-clause-walks
returns-clause-walks g c = if_both c.walks_of.result _ _ _ c.walks_of.ensures.walked c.walks_of.ensures.passes (λ r good are i p q was at.
    walks c.args.nodes.now c.args.ranks c.args.passes.items c.args.starts.items c.in_ok-kits.kits.items c.in_ok-kits.ensures.passes c.in_ok-kits.ensures.starts c.in_ok-kits.ensures.made c.requires.ranks.1 c.requires.starts
    c.superstep_all.new.kits.items c.superstep_all.ensures.steps good i p q was (subst (λ l. get_elem? l i ≡ some q) are at))

pub returns-clause-count : goal.returns-clause-count
returns-clause-count g c = if_ok c.walks_of.result _ _ c.walks_of.ensures.texts (λ r are.
    ap length are ∙ texts_count c.args.nodes.now c.args.ranks c.args.passes.items c.args.starts.items c.in_ok-kits.kits.items c.in_ok-kits.ensures.passes c.in_ok-kits.ensures.starts c.in_ok-kits.ensures.made c.requires.ranks.1 c.requires.starts
    c.superstep_all.new.kits.items c.superstep_all.ensures.steps)

pub returns-clause-texts : goal.returns-clause-texts
returns-clause-texts g c = if_both c.walks_of.result _ _ _ c.walks_of.ensures.walked c.walks_of.ensures.texts (λ r good are i t at.
    texts_are c.args.nodes.now c.args.ranks c.args.passes.items c.args.starts.items c.in_ok-kits.kits.items c.in_ok-kits.ensures.passes c.in_ok-kits.ensures.starts c.in_ok-kits.ensures.made c.requires.ranks.1 c.requires.starts
    c.superstep_all.new.kits.items c.superstep_all.ensures.steps good i t (subst (λ l. get_elem? l i ≡ some t) are at))
