use Rattle.std.proofs.Common.{◌≡◌, ◌≤◌, length}
use Rattle.std.specs.Prelude.{vec_capacity}
use Rattle.bcl_phase.specs.Parts.{home_view, home_words, home_key, IsSameHome}
use Rattle.bcl_map.specs.Map.{places}
use Rattle.bcl_map.specs.Closed.{pairs_to, in_words}
use Rattle.bcl_map.proofs.pairs.list_pairs.Given as goal

abbrev pub invariant-loop-place : goal.invariant-loop-place
invariant-loop-place g l = record {
  view : home_view l.home ≡ home_view l.initial.home;
  same : IsSameHome l.initial.home l.home;
  pairs : in_words g.K.Object.words g.V.Object.words l.pairs.items ≡ pairs_to g.K.Object.WORDS g.V.Object.WORDS (home_words l.initial.home) l.place;
}
