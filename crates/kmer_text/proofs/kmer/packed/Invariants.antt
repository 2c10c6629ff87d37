use Rattle.std.proofs.Common.{◌≡◌, take}
use Rattle.kmer_text.specs.Kmers.{number_of}
use Rattle.kmer_text.proofs.kmer.packed.Given as goal

abbrev pub invariant-loop-byte : goal.invariant-loop-byte
invariant-loop-byte l = l.bits ≡ number_of (take l.byte-index l.word)
