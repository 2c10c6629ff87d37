-- Pairs as values.
-- A pair is its parts.
use Rattle.std.specs.Prelude.{◌≡◌}
use Rattle.std.proofs.Common.{ap₂}
use Rattle.bcl_words.specs.declared.pair.Pair.{Pair}

pub same_pair : {A B : Type 0} (x y : Pair A B) → x.a ≡ y.a → x.b ≡ y.b → x ≡ y
same_pair {A} {B} x y e f = let make : A → B → Pair A B = λ a b. record { a = a; b = b } in ap₂ make e f
