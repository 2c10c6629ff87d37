use Rattle.std.proofs.Common.{◌≡◌, ◌+◌, ◌<◌, ◌≤◌, ℕ, length, slice_index}
use Rattle.bcl_phase.specs.Parts.{home_view, home_words, IsSameHome}
use Rattle.bcl_map.proofs.pairs.read_object.Given as goal

abbrev pub invariant-loop-j : goal.invariant-loop-j
invariant-loop-j g l = record {
  view : home_view l.home ≡ home_view l.initial.home;
  same : IsSameHome l.initial.home l.home;
  len : length l.words ≡ 8;
  read : (b : ℕ) → b < l.j → slice_index l.words b ≡ slice_index (home_words l.initial.home) (l.at + l.first + b);
  zeros : (b : ℕ) → l.j ≤ b → slice_index l.words b ≡ 0;
}
