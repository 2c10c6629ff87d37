use Rattle.std.proofs.Common.{◌≡◌, ◌++◌, take}
use Rattle.kmer_rows.specs.Counts.{rows}
use Rattle.kmer_rows.proofs.rows.push_rows.Given as goal

-- the rows of the entries so far
abbrev pub invariant-loop-kmer : goal.invariant-loop-kmer
invariant-loop-kmer l = l.text.items ≡ l.fn.text.items ++ rows l.k l.least (take l.kmer-index l.counts)
