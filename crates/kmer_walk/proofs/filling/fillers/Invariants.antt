use Rattle.std.proofs.Common.{◌≡◌, ℕ, [], length, replicate}
use mathlib.Core.Option.{some}
use lib.ListN.{get_elem?}
use Rattle.bcl_buffer.specs.declared.buffer.State.TheVariants.{Filling}
use Rattle.kmer_walk.proofs.filling.fillers.Given as goal

abbrev pub invariant-loop-rank : goal.invariant-loop-rank
invariant-loop-rank l = record {
  count : length l.kits.items ≡ l.rank;
  kits : (r : ℕ) (f : _) → get_elem? l.kits.items r ≡ some f → (f.lines.now ≡ l.lines) × (f.k ≡ l.k) × (f.rank ≡ r) × (f.ranks ≡ l.shape.ranks) × (f.buffer ≡ record { rank = r; shape = l.shape; state = Filling; lanes = replicate l.shape.ranks [] });
}
