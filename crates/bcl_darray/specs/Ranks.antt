-- The words of an array fit as a rank comes or goes with no call in flight, and as another promise begins.
-- These are the laws that the rule of all containers asks of the array.
use Rattle.std.specs.Prelude.{◌≡◌, ℕ, zero, suc, ◌<◌, List, [], ◌∷◌, ◌++◌, Bool, true, false, length}
use Rattle.std.proofs.Common.{sym, refl, subst}
use Rattle.std.proofs.lemmas.Bool.{false≢true}
use mathlib.Core.Option.{some, some-injective, some-ne-none}
use lib.ListN.{get_elem?}
use Rattle.bcl_event.specs.Array.{item_at}
use Rattle.bcl_phase.specs.Flights.{Lies}
use Rattle.bcl_darray.specs.declared.array.Shape.{Shape}
use Rattle.bcl_darray.specs.declared.array.Note.{Note}
use Rattle.bcl_darray.specs.declared.array.Note.TheVariants.{Rest, Getting, Putting}
use Rattle.bcl_darray.specs.Array.{ranks}
use Rattle.bcl_darray.specs.Fits.{Fits, Flies, put_by}

put_beside : (width : ℕ) (xs : List Note) (r place : ℕ) → put_by width (get_elem? (xs ++ Rest ∷ []) r) place ≡ put_by width (get_elem? xs r) place
put_beside width [] zero place = refl
put_beside width [] (suc r) place = refl
put_beside width (x ∷ xs) zero place = refl
put_beside width (x ∷ xs) (suc r) place = put_beside width xs r place

longer : (width : ℕ) (shape : Shape) (p : ℕ) (items : List (List ℕ)) (xs : List Note) (rank : ℕ → ℕ) → ((r : ℕ) (x : Note) → get_elem? xs r ≡ some x → Flies width shape p (rank r) items x)
    → (r : ℕ) (x : Note) → get_elem? (xs ++ Rest ∷ []) r ≡ some x → Flies width shape p (rank r) items x
longer width shape p items [] rank fly zero x e = subst (Flies width shape p (rank zero) items) (some-injective Rest x e) tt
longer width shape p items [] rank fly (suc r) x e = absurd (some-ne-none x (sym e))
longer width shape p items (y ∷ xs) rank fly zero x e = fly zero x e
longer width shape p items (y ∷ xs) rank fly (suc r) x e = longer width shape p items xs (λ n. rank (suc n)) (λ n. fly (suc n)) r x e

shorter : (xs : List Note) (r : ℕ) (x : Note) → get_elem? xs r ≡ some x → get_elem? (xs ++ Rest ∷ []) r ≡ some x
shorter [] r x e = absurd (some-ne-none x (sym e))
shorter (y ∷ xs) zero x e = e
shorter (y ∷ xs) (suc r) x e = shorter xs r x e

-- no call is in flight
abbrev pub is_rest : Note → Bool
is_rest Rest = true
is_rest (Getting f) = false
is_rest (Putting f) = false

pub at_rest : (x : Note) → is_rest x ≡ true → x ≡ Rest
at_rest Rest e = refl
at_rest (Getting f) e = absurd (false≢true e)
at_rest (Putting f) e = absurd (false≢true e)

module _ (width : ℕ) (passes : List ℕ → Bool) (shape : Shape) where
  pub admitted : (p : ℕ) (ws : List ℕ) (items : List (List ℕ)) (xs : List Note) → length xs < ranks shape → Fits width passes shape p ws items xs → Fits width passes shape p ws items (xs ++ Rest ∷ [])
  admitted p ws items xs room fit = record {
    count = fit.count;
    all = fit.all;
    whole = fit.whole;
    lies = λ i below. subst (Lies ws _ (item_at i items)) (sym (put_beside width xs _ i)) (fit.lies i below);
    flies = longer width shape p items xs (λ r. r) fit.flies;
  }

  pub released : (p : ℕ) (ws : List ℕ) (items : List (List ℕ)) (xs : List Note) (y : Note) → is_rest y ≡ true → Fits width passes shape p ws items (xs ++ y ∷ []) → Fits width passes shape p ws items xs
  released p ws items xs y rest fitted = let fit = subst (λ (z : Note). Fits width passes shape p ws items (xs ++ z ∷ [])) (at_rest y rest) fitted in record {
    count = fit.count;
    all = fit.all;
    whole = fit.whole;
    lies = λ i below. subst (Lies ws _ (item_at i items)) (put_beside width xs _ i) (fit.lies i below);
    flies = λ r x e. fit.flies r x (shorter xs r x e);
  }

  pub renewed : (p q : ℕ) (ws : List ℕ) (items : List (List ℕ)) → Fits width passes shape p ws items [] → Fits width passes shape q ws items []
  renewed p q ws items fit = record {
    count = fit.count;
    all = fit.all;
    whole = fit.whole;
    lies = fit.lies;
    flies = λ r x e. absurd (some-ne-none x (sym e));
  }
