use Rattle.std.proofs.Common.{◌≡◌, ℕ, List, ◌++◌, map, take}
use Rattle.kmer_walk.specs.Texts.{AreTexts}
use Rattle.kmer_walk.proofs.Pieces.{begins}
use Rattle.kmer_walk.proofs.gathering.push_texts.Given as goal

-- the first so many texts are put, and behind them the next begins
abbrev pub invariant-loop-i : goal.invariant-loop-i
invariant-loop-i l = (own : List (List ℕ)) → AreTexts own l.part.bytes.items l.part.ends.items → (map (λ text. text.items) l.texts.items ≡ map (λ text. text.items) l.fn.texts.items ++ take l.i own) × (l.begin ≡ begins own l.i)
