use Rattle.std.proofs.Common.{◌≡◌, ◌++◌, map}
use Rattle.std.specs.Prelude.{All, IsOk}
use Rattle.kmer_walk.proofs.checking.checks_of.Given as goal

abbrev pub invariant-loop-kit : goal.invariant-loop-kit
invariant-loop-kit l = record {
  checked : All (λ c. IsOk c.checked) l.yielded;
  passes : l.passes.items ≡ map (λ c. c.pass) l.yielded;
  starts : l.starts.items ≡ map (λ c. c.starts) l.yielded;
  rest : l.yielded ++ l.kit-iterator.rest.items ≡ l.fn.kits.items;
}
