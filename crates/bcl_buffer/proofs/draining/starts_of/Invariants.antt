use Rattle.std.proofs.Common.{◌≡◌, ℕ, length}
use Rattle.bcl_map.specs.Parts.{lead_key}
use Rattle.bcl_buffer.specs.Batches.{AreStarts}
use Rattle.bcl_buffer.proofs.draining.starts_of.Given as goal

abbrev pub invariant-loop-j : goal.invariant-loop-j
invariant-loop-j g l = record {
  starts : AreStarts g.K.Object.words (lead_key l.lead) l.j l.pairs l.starts;
  long : length l.starts ≡ 64;
}
