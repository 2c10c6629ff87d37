use Rattle.std.proofs.Common.{◌≡◌, ◌≤◌, ◌-◌, ◌+◌, ◌++◌, length, map, drop, slice_range}
use Rattle.std.specs.List.{All}
use Rattle.kmer_text.specs.Lines.{lines}
use Rattle.kmer_text.proofs.lines.spans_of.Given as goal

-- the lines so far, and those of the rest
abbrev pub invariant-loop-start : goal.invariant-loop-start
invariant-loop-start l = record {
  cut : map (λ s. slice_range l.text s.start s.end) l.spans.items ++ lines (drop l.start l.text) ≡ lines l.text;
  fits : All (λ s. (s.start ≤ s.end) × (s.end ≤ length l.text)) l.spans.items;
  in_range : l.start ≤ length l.text + 1;
}

abbrev pub decreases-loop-start : goal.decreases-loop-start
decreases-loop-start l = length l.text - l.start
