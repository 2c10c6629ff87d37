use Rattle.std.proofs.Common.{◌≡◌, [], All, map}
use Rattle.kmer_walk.proofs.checking.checkers.Given as goal

abbrev pub invariant-loop-pass : goal.invariant-loop-pass
invariant-loop-pass l = record {
  passes : map (λ c. c.pass) l.kits.items ≡ l.yielded;
  made : All (λ c. (c.nodes.now ≡ l.nodes) × (c.ranks ≡ l.ranks) × (c.starts.items ≡ [])) l.kits.items;
}
