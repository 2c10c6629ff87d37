use Rattle.std.proofs.Common.{◌≡◌, ◌<◌, ◌∙◌, sym, ap, subst, arith, None}
use Rattle.bcl_phase.proofs.Zips.{all_at}
use Rattle.bcl_phase.proofs.Returns.{if_both}
use Rattle.kmer_text.specs.Kmers.{IsKmerLength}
use Rattle.kmer_text.specs.Nodes.{bad_node}
use Rattle.bcl_buffer.specs.declared.buffer.State.TheVariants.{Filling}
use Rattle.bcl_buffer.proofs.Shares.{within}
use Rattle.kmer_walk.specs.Fills.{AreFilled}
use Rattle.kmer_walk.specs.declared.filler.Filler.{Filler}
use Rattle.kmer_walk.proofs.Shares.{are_filled}
use Rattle.kmer_walk.proofs.filling.fill.Goals as goal

pub superstep_all-requires-clause-ready : goal.superstep_all-requires-clause-ready
superstep_all-requires-clause-ready g c κs outlives =
    all_at (λ (f : Filler). IsKmerLength f.k × (bad_node f.k f.lines.now ≡ None) × (f.rank < f.ranks) × (f.buffer.state ≡ Filling)) c.in_ok-kits.kits.items (λ i f at.
    let it = c.in_ok-kits.ensures.kits i f at in
    let rank = it.2 in let ranks = it.3 in
    let low = within c.in_ok-kits.kits.items i f at in
    let count = c.in_ok-kits.ensures.count in (
      subst IsKmerLength (sym it.1) c.requires.k,
      (λ j. bad_node (it.1 j) (it.0 j)) ∙ c.requires.good,
      omega arith,
      ap (λ b. b.state) it.4,
    ))

pub returns : goal.returns
returns g c = record {
  filled = if_both c.buffers_of.result _ _ _ c.buffers_of.ensures.filled c.buffers_of.ensures.buffers (λ v filled is.
      subst (AreFilled c.args.k c.args.lines.now c.args.shape) (sym is)
      (are_filled c.args.k c.args.shape c.args.lines.now c.in_ok-kits.kits.items c.superstep_all.new.kits.items c.requires.ranks c.in_ok-kits.ensures.count c.in_ok-kits.ensures.kits c.superstep_all.ensures.steps filled));
}
