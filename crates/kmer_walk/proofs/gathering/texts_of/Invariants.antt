use Rattle.std.proofs.Common.{◌≡◌, ℕ, List, map, take}
use Rattle.std.specs.List.{flat_map}
use Rattle.kmer_walk.specs.Texts.{HaveTexts}
use Rattle.kmer_walk.proofs.gathering.texts_of.Given as goal

-- the texts of the first so many parts are put
abbrev pub invariant-loop-part : goal.invariant-loop-part
invariant-loop-part l = (all : List (List (List ℕ))) → HaveTexts all l.parts → map (λ text. text.items) l.texts.items ≡ flat_map (λ own. own) (take l.part-index all)
