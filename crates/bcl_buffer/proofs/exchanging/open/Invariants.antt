use Rattle.std.proofs.Common.{◌≡◌, ◌<◌, ◌≤◌, ℕ, All, length}
use Rattle.bcl_buffer.specs.declared.buffer.State.TheVariants.{Turning}
use Rattle.bcl_buffer.specs.Lanes.{lane, home_in}
use Rattle.bcl_buffer.specs.Exchanges.{at}
use Rattle.bcl_buffer.proofs.exchanging.open.Given as goal

abbrev pub invariant-loop-r : goal.invariant-loop-r
invariant-loop-r g l = record {
  count : length l.buffers ≡ length l.initial.buffers;
  turning : (i : ℕ) → i < l.r → at l.buffers i ≡ record (at l.initial.buffers i) { state = Turning };
  left : (i : ℕ) → l.r ≤ i → at l.buffers i ≡ at l.initial.buffers i;
  wide : (i : ℕ) → i < l.r → length (at l.initial.buffers i).lanes ≡ (at l.initial.buffers i).shape.ranks;
  homes : (i : ℕ) → i < l.r → (s : ℕ) → All (λ p. home_in g.K.Object.WORDS (at l.initial.buffers i).shape (g.K.Object.words p.a) ≡ s) (lane (at l.initial.buffers i) s);
}
