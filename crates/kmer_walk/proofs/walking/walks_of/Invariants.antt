use Rattle.std.proofs.Common.{◌≡◌, ◌++◌, map}
use Rattle.std.specs.Prelude.{All, IsOk}
use Rattle.kmer_walk.proofs.walking.walks_of.Given as goal

abbrev pub invariant-loop-kit : goal.invariant-loop-kit
invariant-loop-kit l = record {
  walked : All (λ w. IsOk w.walked) l.yielded;
  passes : l.passes.items ≡ map (λ w. w.pass) l.yielded;
  texts : l.texts.items ≡ map (λ w. w.texts) l.yielded;
  rest : l.yielded ++ l.kit-iterator.rest.items ≡ l.fn.kits.items;
}
