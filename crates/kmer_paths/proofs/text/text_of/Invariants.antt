use Rattle.std.proofs.Common.{◌≡◌, map, take}
use Rattle.kmer_paths.specs.Contigs.{text_of}
use Rattle.kmer_paths.proofs.text.text_of.Given as goal

-- the lines so far
abbrev pub invariant-loop-text : goal.invariant-loop-text
invariant-loop-text l = l.all.items ≡ text_of (map (λ text. text.items) (take l.text-index l.texts))
