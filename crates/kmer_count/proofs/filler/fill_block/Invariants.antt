use Rattle.std.proofs.Common.{map}
use Rattle.std.specs.Prelude.{slice_range}
use Rattle.kmer_text.specs.Kmers.{number_of}
use Rattle.kmer_text.specs.Windows.{all_windows}
use Rattle.kmer_count.specs.Fills.{Fills}
use Rattle.kmer_count.proofs.filler.fill_block.Given as goal

-- the ones of the lines before this one
abbrev pub invariant-loop-i : goal.invariant-loop-i
invariant-loop-i l = Fills (map number_of (all_windows l.k (slice_range l.lines l.first l.i))) l.fn.buffer l.buffer
