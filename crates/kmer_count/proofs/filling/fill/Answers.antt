use Rattle.std.proofs.Common.{◌≡◌, ◌<◌, sym, ap, subst, arith}
use Rattle.std.specs.Prelude.{All, IsTrue}
use Rattle.bcl_phase.proofs.Zips.{all_at}
use Rattle.bcl_phase.proofs.Returns.{if_both}
use Rattle.kmer_text.specs.Kmers.{IsKmerLength}
use Rattle.kmer_text.specs.Letters.{are_letters}
use Rattle.bcl_buffer.specs.declared.buffer.State.TheVariants.{Filling}
use Rattle.bcl_buffer.proofs.Shares.{within}
use Rattle.kmer_count.specs.Fills.{AreFilled}
use Rattle.kmer_count.specs.declared.filler.Filler.{Filler}
use Rattle.kmer_count.proofs.Shares.{are_filled}
use Rattle.kmer_count.proofs.filling.fill.Goals as goal

pub superstep_all-requires-clause-ready : goal.superstep_all-requires-clause-ready
superstep_all-requires-clause-ready g c κs outlives =
    all_at (λ (f : Filler). IsKmerLength f.k × All (λ line. IsTrue (are_letters line)) f.lines.now × (f.rank < f.ranks) × (f.buffer.state ≡ Filling)) c.in_ok-kits.kits.items (λ i f at.
    let it = c.in_ok-kits.ensures.kits i f at in
    let rank = it.2 in let ranks = it.3 in
    let low = within c.in_ok-kits.kits.items i f at in
    let count = c.in_ok-kits.ensures.count in (
      subst IsKmerLength (sym it.1) c.requires.k,
      subst (All (λ line. IsTrue (are_letters line))) (sym it.0) c.requires.letters,
      omega arith,
      ap (λ b. b.state) it.4,
    ))

pub returns : goal.returns
returns g c = record {
  filled = if_both c.buffers_of.result _ _ _ c.buffers_of.ensures.filled c.buffers_of.ensures.buffers (λ v filled is.
      subst (AreFilled c.args.k c.args.shape c.args.lines.now) (sym is)
      (are_filled c.args.k c.args.shape c.args.lines.now c.in_ok-kits.kits.items c.superstep_all.new.kits.items c.requires.ranks c.in_ok-kits.ensures.count c.in_ok-kits.ensures.kits c.superstep_all.ensures.steps filled));
}
