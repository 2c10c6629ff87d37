use Rattle.std.proofs.Common.{◌≡◌, map}
use Rattle.std.specs.Prelude.{All, IsOk}
use Rattle.kmer_walk.proofs.filling.buffers_of.Given as goal

abbrev pub invariant-loop-kit : goal.invariant-loop-kit
invariant-loop-kit l = record {
  filled : All (λ f. IsOk f.filled) l.yielded;
  buffers : l.buffers.items ≡ map (λ f. f.buffer) l.yielded;
}
