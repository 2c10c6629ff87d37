use Rattle.std.proofs.Common.{◌≡◌, ◌-◌, ◌^◌, min, take, true}
use Rattle.std.specs.List.{All}
use Rattle.kmer_text.specs.Letters.{are_letters}
use Rattle.kmer_text.specs.Windows.{total}
use Rattle.kmer_text.proofs.check.check_letters.Given as goal

-- the lines so far have letters alone, and so many windows, up to the last number that fits
abbrev pub invariant-loop-i : goal.invariant-loop-i
invariant-loop-i l = record {
  letters : All (λ line. are_letters line ≡ true) (take l.i l.lines);
  count : l.total ≡ min (total l.k (take l.i l.lines)) (2 ^ 64 - 1);
}
