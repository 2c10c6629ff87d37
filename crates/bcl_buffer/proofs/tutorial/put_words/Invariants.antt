use Rattle.std.proofs.Common.{◌≡◌}
use Rattle.bcl_buffer.specs.declared.buffer.State.TheVariants.{Filling}
use Rattle.bcl_buffer.proofs.tutorial.put_words.Given as goal

abbrev pub invariant-loop-word : goal.invariant-loop-word
invariant-loop-word l = record {
  rank : l.buffer.rank ≡ l.initial.buffer.rank;
  shape : l.buffer.shape ≡ l.initial.buffer.shape;
  fills : l.buffer.state ≡ Filling;
}
