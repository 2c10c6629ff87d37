use Rattle.std.proofs.Common.{◌≡◌, ℕ, ◌≤◌, length, vec_capacity}
use mathlib.Core.Option.{some}
use lib.ListN.{get_elem?}
use Rattle.bcl_segment.specs.Parts.{key_of, id_of, view_of, IsSameSeat}
use Rattle.bcl_phase.specs.Phases.{begun}
use Rattle.bcl_phase.specs.Parts.{pass_view, pass_table, pass_layout}
use Rattle.bcl_phase.proofs.begin.deal.Given as goal

abbrev pub invariant-loop-rank : goal.invariant-loop-rank
invariant-loop-rank g l = record {
  seat : IsSameSeat l.initial.seat l.seat;
  view : view_of l.seat ≡ record (view_of l.initial.seat) { passes = l.rank };
  count : length l.passes.items ≡ l.rank;
  room : l.initial.layout.ranks ≤ vec_capacity l.passes;
  dealt : (i : ℕ) (p : _) → get_elem? l.passes.items i ≡ some p → (pass_table (g.W.Wraps.inner p).pass ≡ id_of l.segments) × (pass_layout (g.W.Wraps.inner p).pass ≡ l.initial.layout) × (pass_view (g.W.Wraps.inner p).pass ≡ begun g.R.Phased.rest g.P.Promise.CODE (key_of l.segments) (view_of l.initial.seat).seen i);
}
