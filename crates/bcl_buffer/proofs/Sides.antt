-- What each of many does side by side.
use Rattle.std.proofs.Common.{◌≡◌, ℕ, suc, ◌<◌, List, [], ◌∷◌, length, get_or, arith}
use Rattle.std.specs.List.{AllZip}

module _ {X : Type 0} (R : X → X → Type 0) where
  -- at each place
  pub zip_each : (xs ys : List X) → length ys ≡ length xs → ((i : ℕ) (d : X) → i < length xs → R (get_or xs i d) (get_or ys i d)) → AllZip R xs ys
  zip_each [] [] same each = tt
  zip_each [] (y ∷ ys) same each = absurd (omega arith)
  zip_each (x ∷ xs) [] same each = absurd (omega arith)
  zip_each (x ∷ xs) (y ∷ ys) same each = (each 0 x (omega arith), zip_each xs ys (omega arith) (λ i d low. each (suc i) d (omega arith)))
