-- Texts that lie one behind another in a list of bytes, and the walks that they come from.
use Rattle.std.specs.Prelude.{◌≡◌, ℕ, ◌+◌, List, [], ◌∷◌, All, length}
use Rattle.std.specs.List.{flat_map, sum_by, AllZip}
use Rattle.bcl_map.specs.declared.shape.Shape.{Shape}
use Rattle.bcl_map.specs.Calls.{MapView}
use Rattle.kmer_walk.specs.declared.walker.Texts.{Texts}
use Rattle.kmer_walk.specs.Book.{Call, walk_finds, IsRun}
use Rattle.kmer_walk.specs.Finds.{Makes}

-- where each text ends, of which the first begins at a place
abbrev pub ends_from : ℕ → List (List ℕ) → List ℕ
ends_from at [] = []
ends_from at (text ∷ texts) = (at + length text) ∷ ends_from (at + length text) texts

pub record AreTexts (texts : List (List ℕ)) (bytes ends : List ℕ) : Type 0 where
  pub bytes_are : bytes ≡ flat_map (λ text. text) texts
  pub ends_are : ends ≡ ends_from 0 texts

-- finds were made, among which those of the walk from each of these starts stand side by side
pub record MakesWalks (k : ℕ) (lines : List (List ℕ)) (shape : Shape) (starts : List ℕ) (old new : MapView) : Type 0 where
  pub calls : List Call
  pub makes : Makes shape calls old new
  pub walks : All (λ start. IsRun (walk_finds k lines start) calls) starts

-- each part has these texts
abbrev pub HaveTexts : List (List (List ℕ)) → List Texts → Type 0
HaveTexts all parts = AllZip (λ texts part. AreTexts texts part.bytes.items part.ends.items) all parts

-- how many bytes the texts of all parts have, with a newline behind each
abbrev pub size_of : List Texts → ℕ
size_of parts = sum_by (λ part. length part.bytes.items + length part.ends.items) parts
