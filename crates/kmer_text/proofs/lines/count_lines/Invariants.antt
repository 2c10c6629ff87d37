use Rattle.std.proofs.Common.{◌≡◌, ◌≤◌, ◌-◌, ◌+◌, length, drop}
use Rattle.kmer_text.specs.Lines.{lines}
use Rattle.kmer_text.proofs.lines.count_lines.Given as goal

-- the lines so far, and those of the rest
abbrev pub invariant-loop-start : goal.invariant-loop-start
invariant-loop-start l = record {
  counted : l.count + length (lines (drop l.start l.text)) ≡ length (lines l.text);
  in_range : l.start ≤ length l.text + 1;
  few : l.count ≤ l.start;
}

abbrev pub decreases-loop-start : goal.decreases-loop-start
decreases-loop-start l = length l.text - l.start
