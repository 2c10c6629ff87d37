use Rattle.std.proofs.Common.{◌≡◌, ◌+◌, ◌≤◌, ℕ, ◌++◌, map, reverse, length}
use Rattle.std.specs.Prelude.{vec_capacity}
use mathlib.Core.Option.{some}
use lib.ListN.{get_elem?}
use Rattle.bcl_phase.specs.Deals.{view, IsIn, AreOf}
use Rattle.bcl_phase.proofs.carries.passes_of.Given as goal

abbrev pub invariant-loop-kit : goal.invariant-loop-kit
invariant-loop-kit g l = record {
  count : length l.kits.items + length l.passes.items ≡ length l.fn.kits.items;
  room : length l.fn.kits.items ≤ vec_capacity l.passes;
  carried : map g.K.Carries.pass l.fn.kits.items ≡ map g.K.Carries.pass l.kits.items ++ reverse l.passes.items;
  kits : (i : ℕ) (k : _) → get_elem? l.kits.items i ≡ some k → IsIn (g.W.Wraps.inner (g.K.Carries.pass k)) l.lead × ((view (g.W.Wraps.inner (g.K.Carries.pass k))).rank + i + 1 ≡ length l.fn.kits.items);
  passes : AreOf g.W.Wraps.inner l.lead l.passes.items;
}

abbrev pub decreases-loop-kit : goal.decreases-loop-kit
decreases-loop-kit g l = length l.kits.items
