use Rattle.std.proofs.Common.{◌≡◌, ◌++◌, ℕ, map}
use Rattle.bcl_buffer.specs.declared.buffer.State.TheVariants.{Filling}
use Rattle.bcl_buffer.specs.Lanes.{lane}
use Rattle.kmer_text.specs.Kmers.{number_of}
use Rattle.kmer_text.specs.Windows.{windows}
use Rattle.kmer_count.specs.Fills.{ones_for}
use Rattle.kmer_count.proofs.filler.fill_line.Given as goal

-- those that went in, and those that are left, are all
abbrev pub invariant-loop-kmer : goal.invariant-loop-kmer
invariant-loop-kmer l = record {
  rank : l.buffer.rank ≡ l.fn.buffer.rank;
  shape : l.buffer.shape ≡ l.fn.buffer.shape;
  filling : l.buffer.state ≡ Filling;
  lanes : (rank : ℕ) → lane l.buffer rank ++ ones_for l.fn.buffer.shape rank l.kmer-iterator ≡ lane l.fn.buffer rank ++ ones_for l.fn.buffer.shape rank (map number_of (windows l.k l.line));
}
