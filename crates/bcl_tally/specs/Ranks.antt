-- The words of the tally fit as a rank comes or goes with no call in flight, and as another promise begins.
-- These are the laws that the rule of all containers asks of the tally.
use Rattle.std.specs.Prelude.{◌≡◌, ℕ, true, ◌<◌, List, [], ◌∷◌, ◌++◌, length, zero, suc}
use Rattle.std.proofs.Common.{sym, subst}
use mathlib.Core.Option.{some, some-injective, some-ne-none}
use lib.ListN.{get_elem?}
use Rattle.bcl_tally.specs.declared.tally.Note.{Note}
use Rattle.bcl_tally.specs.declared.tally.Note.TheVariants.{Rest, Got}
use Rattle.bcl_tally.specs.Tally.{ranks, is_rest, fits}

abbrev rests : Note → Type 0
rests Rest = Unit {0}
rests (Got m) = ⊥

pub not_rest : (m : ℕ) → Rest ≡ Got m → ⊥
not_rest m e = subst rests e tt

longer : (xs : List Note) (r m : ℕ) → get_elem? (xs ++ Rest ∷ []) r ≡ some (Got m) → get_elem? xs r ≡ some (Got m)
longer [] zero m e = absurd (not_rest m (some-injective Rest (Got m) e))
longer [] (suc r) m e = absurd (some-ne-none (Got m) (sym e))
longer (x ∷ xs) zero m e = e
longer (x ∷ xs) (suc r) m e = longer xs r m e

shorter : (xs ys : List Note) (r m : ℕ) → get_elem? xs r ≡ some (Got m) → get_elem? (xs ++ ys) r ≡ some (Got m)
shorter [] ys r m e = absurd (some-ne-none (Got m) (sym e))
shorter (x ∷ xs) ys zero m e = e
shorter (x ∷ xs) ys (suc r) m e = shorter xs ys r m e

pub admitted : (k p : ℕ) (ws t : List ℕ) (xs : List Note) → length xs < ranks k → fits k p ws t xs → fits k p ws t (xs ++ Rest ∷ [])
admitted k p ws t xs room fit = (fit.0, fit.1, λ r m e. fit.2 r m (longer xs r m e))

pub released : (k p : ℕ) (ws t : List ℕ) (xs : List Note) (y : Note) → is_rest y ≡ true → fits k p ws t (xs ++ y ∷ []) → fits k p ws t xs
released k p ws t xs y idle fit = (fit.0, fit.1, λ r m e. fit.2 r m (shorter xs (y ∷ []) r m e))

pub renewed : (k p q : ℕ) (ws t : List ℕ) → fits k p ws t [] → fits k q ws t []
renewed k p q ws t fit = (fit.0, fit.1, λ r m e. absurd (some-ne-none (Got m) (sym e)))
