use Rattle.std.proofs.Common.{◌≡◌, ◌∙◌, length, ap, sym, subst}
use mathlib.Core.Option.{some}
use lib.ListN.{get_elem?}
use Rattle.bcl_phase.proofs.Returns.{if_ok, if_both}
use Rattle.kmer_walk.proofs.Checks.{on_result, ready, no_long, conflict_is_first, consistent, back, makes, starts_are, back_count, starts_count}
use Rattle.kmer_walk.proofs.checking.checked.Goals as goal

pub superstep_all-requires-clause-ready : goal.superstep_all-requires-clause-ready
superstep_all-requires-clause-ready g c κs outlives =
    ready c.args.nodes.now c.args.ranks c.args.passes.items c.in_ok-kits.kits.items c.in_ok-kits.kits.items c.in_ok-kits.ensures.passes c.in_ok-kits.ensures.made c.requires.ranks.1 (λ i p at. (c.requires.all.of i p at).1) c.requires.asks (λ i p at. (c.requires.all.of i p at).0)

pub returns-clause-consistent : goal.returns-clause-consistent
returns-clause-consistent g c = on_result c.checks_of.result _ _ c.checks_of.ensures.checked (λ good.
    consistent c.args.nodes.now c.args.ranks c.args.passes.items c.in_ok-kits.kits.items c.superstep_all.new.kits.items c.in_ok-kits.ensures.passes c.in_ok-kits.ensures.made c.requires.ranks.1 (λ i p at. (c.requires.all.of i p at).1)
    c.superstep_all.ensures.steps good c.requires.ranks.0)

pub returns-clause-conflict : goal.returns-clause-conflict
returns-clause-conflict g c n e =
    conflict_is_first c.args.nodes.now c.args.ranks c.args.passes.items c.in_ok-kits.kits.items c.superstep_all.new.kits.items c.in_ok-kits.ensures.passes c.in_ok-kits.ensures.made c.requires.ranks.1 (λ i p at. (c.requires.all.of i p at).1)
    c.superstep_all.ensures.steps n (c.checks_of.ensures.conflict n e)

pub returns-clause-not_long : goal.returns-clause-not_long
returns-clause-not_long g c e =
    no_long c.args.nodes.now c.args.ranks c.args.passes.items c.in_ok-kits.kits.items c.superstep_all.new.kits.items c.in_ok-kits.ensures.passes c.in_ok-kits.ensures.made c.requires.ranks.1 (λ i p at. (c.requires.all.of i p at).1)
    c.superstep_all.ensures.steps (c.checks_of.ensures.too_long e)

pub returns-clause-all : goal.returns-clause-all
returns-clause-all g c = if_both c.checks_of.result _ _ _ c.checks_of.ensures.checked c.checks_of.ensures.passes (λ r good are. record {
  count = ap length are
      ∙ (back_count c.args.nodes.now c.args.ranks c.args.passes.items c.in_ok-kits.kits.items c.superstep_all.new.kits.items c.in_ok-kits.ensures.passes c.in_ok-kits.ensures.made c.requires.ranks.1 (λ i p at. (c.requires.all.of i p at).1)
      c.superstep_all.ensures.steps ∙ (sym c.requires.ranks.1 ∙ c.requires.all.count));
  of = λ i q at. let it = back c.args.nodes.now c.args.ranks c.args.passes.items c.in_ok-kits.kits.items c.superstep_all.new.kits.items c.in_ok-kits.ensures.passes c.in_ok-kits.ensures.made c.requires.ranks.1 (λ i p at. (c.requires.all.of i p at).1)
      c.superstep_all.ensures.steps good i q (subst (λ l. get_elem? l i ≡ some q) are at) in (it.0, it.1);
})

pub returns-clause-asks : goal.returns-clause-asks
returns-clause-asks g c = if_both c.checks_of.result _ _ _ c.checks_of.ensures.checked c.checks_of.ensures.passes (λ r good are i q at.
    (back c.args.nodes.now c.args.ranks c.args.passes.items c.in_ok-kits.kits.items c.superstep_all.new.kits.items c.in_ok-kits.ensures.passes c.in_ok-kits.ensures.made c.requires.ranks.1 (λ i p at. (c.requires.all.of i p at).1)
    c.superstep_all.ensures.steps good i q (subst (λ l. get_elem? l i ≡ some q) are at)).2)

pub returns-clause-makes : goal.returns-clause-makes
returns-clause-makes g c = if_both c.checks_of.result _ _ _ c.checks_of.ensures.checked c.checks_of.ensures.passes (λ r good are i p q was at.
    makes c.args.nodes.now c.args.ranks c.args.passes.items c.in_ok-kits.kits.items c.superstep_all.new.kits.items c.in_ok-kits.ensures.passes c.in_ok-kits.ensures.made c.requires.ranks.1 (λ i p at. (c.requires.all.of i p at).1)
    c.superstep_all.ensures.steps good i p q was (subst (λ l. get_elem? l i ≡ some q) are at))

pub returns-clause-count : goal.returns-clause-count
returns-clause-count g c = if_ok c.checks_of.result _ _ c.checks_of.ensures.starts (λ r are.
    ap length are ∙ starts_count c.args.nodes.now c.args.ranks c.args.passes.items c.in_ok-kits.kits.items c.superstep_all.new.kits.items c.in_ok-kits.ensures.passes c.in_ok-kits.ensures.made c.requires.ranks.1 (λ i p at. (c.requires.all.of i p at).1)
    c.superstep_all.ensures.steps)

pub returns-clause-starts : goal.returns-clause-starts
returns-clause-starts g c = if_both c.checks_of.result _ _ _ c.checks_of.ensures.checked c.checks_of.ensures.starts (λ r good are i s at.
    starts_are c.args.nodes.now c.args.ranks c.args.passes.items c.in_ok-kits.kits.items c.superstep_all.new.kits.items c.in_ok-kits.ensures.passes c.in_ok-kits.ensures.made c.requires.ranks.1 (λ i p at. (c.requires.all.of i p at).1)
    c.superstep_all.ensures.steps good i s (subst (λ l. get_elem? l i ≡ some s) are at))
