use Rattle.std.proofs.Common.{◌≡◌, ◌++◌, [], All, length, map}
use Rattle.kmer_walk.proofs.walking.walkers.Given as goal

abbrev pub invariant-loop-pass : goal.invariant-loop-pass
invariant-loop-pass l = record {
  passes : map (λ w. w.pass) l.kits.items ≡ l.yielded;
  starts : map (λ w. w.starts) l.kits.items ++ l.starts.rest.items ≡ l.fn.starts.items;
  left : length l.starts.rest.items ≡ length l.pass-iterator.rest.items;
  made : All (λ w. (w.nodes.now ≡ l.nodes) × (w.texts.bytes.items ≡ []) × (w.texts.ends.items ≡ [])) l.kits.items;
}
