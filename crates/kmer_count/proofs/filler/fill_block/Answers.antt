use Rattle.std.proofs.Common.{◌≡◌, ◌+◌, ℕ, map, subst, sym, arith}
use Rattle.std.specs.Prelude.{slice_range}
use Rattle.kmer_text.specs.Kmers.{number_of}
use Rattle.kmer_text.specs.Windows.{windows, all_windows}
use Rattle.kmer_blocks.specs.Blocks.{begins_at}
use Rattle.kmer_blocks.proofs.Blocks.{block_within}
use Rattle.kmer_count.specs.Fills.{Fills}
use Rattle.kmer_count.proofs.Ones.{fills_trans, windows_more}
use Rattle.kmer_count.proofs.filler.fill_block.Goals as goal

pub loop-i-preserved : goal.loop-i-preserved
loop-i-preserved c =
    let first = c.first_of-first.result in let within = c.first_of-end.ensures.within in
    subst (λ kmers. Fills kmers c.args.buffer.now c.fill_line.new.buffer) (sym (windows_more c.args.k c.args.lines.now first c.loop-i.i c.line.result.now (omega arith) (omega arith) c.line.ensures))
    (fills_trans (map number_of (all_windows c.args.k (slice_range c.args.lines.now first c.loop-i.i))) (map number_of (windows c.args.k c.line.result.now)) c.args.buffer.now c.loop-i.buffer c.fill_line.new.buffer c.loop-i.invariant c.in_ok-fill_line.ensures.fills)

pub returns : goal.returns
returns c =
    let lines = c.args.lines.now in
    let rises = (block_within c.args.rank c.args.ranks lines c.requires.rank).0 in
    let first = c.first_of-first.ensures.first in let end = c.first_of-end.ensures.first in
    let last : c.loop-i.i ≡ begins_at (c.args.rank + 1) c.args.ranks lines = omega arith in record {
      fills = subst (λ (z : ℕ × ℕ). Fills (map number_of (all_windows c.args.k (slice_range lines z.0 z.1))) c.args.buffer.now c.loop-i.buffer) (λ j. (first j, last j)) c.loop-i.invariant;
    }
