use Rattle.std.proofs.Common.{◌≡◌, ◌≤◌, ◌-◌, ◌/◌, ◌^◌, ◌++◌, length, drop}
use Rattle.kmer_text.specs.Kmers.{word_of}
use Rattle.kmer_text.proofs.kmer.write_before.Given as goal

-- the letters from a place on are written, and the number of those before it is left
abbrev pub invariant-loop-left : goal.invariant-loop-left
invariant-loop-left l = record {
  place : l.left ≤ l.end;
  in_range : l.end ≤ length l.out;
  number : l.rest ≡ l.bits / 4 ^ (l.end - l.left);
  written : drop l.left l.out ≡ word_of (l.end - l.left) l.bits ++ drop l.end l.fn.out;
}

abbrev pub decreases-loop-left : goal.decreases-loop-left
decreases-loop-left l = l.left
