use Rattle.std.proofs.Common.{◌≡◌, ◌++◌, ℕ, List, All, length}
use Rattle.bcl_words.specs.declared.pair.Pair.{Pair}
use Rattle.bcl_map.specs.Parts.{lead_key, pass_view, IsOf}
use Rattle.bcl_buffer.specs.declared.buffer.State.TheVariants.{Exchanged}
use Rattle.bcl_buffer.specs.Lanes.{items, home_in}
use Rattle.bcl_buffer.specs.Drains.{Merged}
use Rattle.bcl_buffer.proofs.Emptied.{joined, lane_at, AreEmpty}
use Rattle.bcl_buffer.proofs.buffer.Buffer.drain.Given as goal

abbrev pub invariant-loop-rank : goal.invariant-loop-rank
invariant-loop-rank g l = record {
  merged : (done : List (Pair _ _)) × Merged g.K.Object.words g.V.Object.words g.L.MergeLaw.op (lead_key l.lead) done (pass_view l.fn.pass) (pass_view l.pass) × (items l.fn.self ≡ done ++ joined l.self-inside.lanes.items);
  of : IsOf l.pass l.lead;
  exchanged : l.self-inside.state ≡ Exchanged;
  same : (l.self-inside.rank ≡ l.fn.self.rank) × (l.self-inside.shape ≡ l.fn.self.shape);
  long : length l.self-inside.lanes.items ≡ l.rank-end;
  ranks : l.rank-end ≡ l.fn.self.shape.ranks;
  placed : (rank : ℕ) → All (λ p. home_in g.K.Object.WORDS l.fn.self.shape (g.K.Object.words p.a) ≡ l.fn.self.rank) (lane_at l.self-inside.lanes.items rank);
  emptied : AreEmpty l.self-inside.lanes.items l.rank;
}
