use Rattle.std.proofs.Common.{◌≡◌, ◌≤◌, ◌-◌, ◌/◌, ◌^◌, length, drop}
use Rattle.kmer_text.specs.Kmers.{word_of}
use Rattle.kmer_text.proofs.kmer.write_word.Given as goal

-- the letters from a place on are written, and the number of those before it is left
abbrev pub invariant-loop-left : goal.invariant-loop-left
invariant-loop-left l = record {
  same : length l.out ≡ length l.fn.out;
  place : l.left ≤ length l.out;
  number : l.rest ≡ l.bits / 4 ^ (length l.out - l.left);
  written : drop l.left l.out ≡ word_of (length l.out - l.left) l.bits;
}

abbrev pub decreases-loop-left : goal.decreases-loop-left
decreases-loop-left l = l.left
