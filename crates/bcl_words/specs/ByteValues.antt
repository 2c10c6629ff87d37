-- Bytes as values.
-- A value is its bytes.
use Rattle.std.specs.Prelude.{◌≡◌, ℕ, List}
use Rattle.std.proofs.Common.{ap}
use Rattle.bcl_words.specs.declared.bytes.Bytes16.{Bytes16}
use Rattle.bcl_words.specs.declared.bytes.Bytes64.{Bytes64}

pub same_16 : (x y : Bytes16) → x.bytes ≡ y.bytes → x ≡ y
same_16 x y e = let make : List ℕ → Bytes16 = λ b. record { bytes = b } in ap make e

pub same_64 : (x y : Bytes64) → x.bytes ≡ y.bytes → x ≡ y
same_64 x y e = let make : List ℕ → Bytes64 = λ b. record { bytes = b } in ap make e
