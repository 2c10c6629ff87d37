use Rattle.std.proofs.Common.{◌≡◌, ℕ, ◌++◌, ◌⊎◌, length, false}
use mathlib.Core.Option.{some}
use lib.ListN.{get_elem?}
use Rattle.bcl_segment.specs.Parts.{id_of, view_of}
use Rattle.bcl_phase.specs.Seats.{IsHomeSeat}
use Rattle.bcl_phase.specs.Parts.{pass_view, pass_table}
use Rattle.bcl_phase.proofs.Returns.{over, told}
use Rattle.bcl_phase.proofs.lead.Lead.gather.Given as goal

abbrev pub invariant-loop-pass : goal.invariant-loop-pass
invariant-loop-pass g l = record {
  seat : IsHomeSeat l.segments l.seat;
  out : (view_of l.seat).passes ≡ length l.passes.items;
  whole : (view_of l.seat).loose ≡ false;
  start : (view_of l.seat).start ≡ (view_of l.initial.seat).start;
  promise : (length l.passes.items ≡ length l.initial.passes.items) ⊎ ((view_of l.seat).promise ≡ g.P.Promise.CODE);
  taken : over l.initial.passes.items (λ p. told (pass_view (g.W.Wraps.inner p).pass)) ≡ over l.passes.items (λ p. told (pass_view (g.W.Wraps.inner p).pass)) ++ (view_of l.seat).back;
  left : (i : ℕ) (p : _) → get_elem? l.passes.items i ≡ some p → (pass_table (g.W.Wraps.inner p).pass ≡ id_of l.segments) × ((pass_view (g.W.Wraps.inner p).pass).rank ≡ i);
}

abbrev pub decreases-loop-pass : goal.decreases-loop-pass
decreases-loop-pass g l = goal.left-loop-pass g l
