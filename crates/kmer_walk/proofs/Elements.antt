-- What stands in a list that is mapped, filtered or put into another order.
use Rattle.std.proofs.Common.{◌≡◌, ℕ, zero, suc, ◌<◌, List, [], ◌∷◌, ◌++◌, Bool, true, false, cond, get_or, length, map, refl, sym, ap, ◌∙◌, subst, arith}
use Rattle.std.specs.Prelude.{Contains, filter, flat_map}
use Rattle.std.specs.List.Sorted.{IsPermutation}
use Rattle.std.proofs.lemmas.Bool.{cond_both}
use Rattle.std.proofs.lemmas.List.{get_or-map, length-map}
use Rattle.std.proofs.lemmas.List.Elements.{Contains-append_right}
use Rattle.std.proofs.lemmas.List.Sorted.{Contains-permutation}

passes_at : {X : Type 0} (test : X → Bool) (xs : List X) (x : X) (i : ℕ) → i < length xs → get_or xs i x ≡ x → test x ≡ true → Contains (filter test xs) x
passes_at test [] x i low is passes = absurd (omega arith)
passes_at test (y ∷ ys) x zero low is passes =
    subst (λ b. Contains (cond b (y ∷ filter test ys) (filter test ys)) x) (sym (ap test is ∙ passes)) (0, omega arith, is)
passes_at test (y ∷ ys) x (suc i) low is passes =
    let later = passes_at test ys x i (omega arith) is passes in
    cond_both (test y) (y ∷ filter test ys) (filter test ys) (λ zs. Contains zs x) (λ _. Contains-append_right (y ∷ []) (filter test ys) x later) (λ _. later)

pub Contains-filter : {X : Type 0} (test : X → Bool) (xs : List X) (x : X) → Contains xs x → test x ≡ true → Contains (filter test xs) x
Contains-filter test xs x it passes = passes_at test xs x it.0 it.1 it.2 passes

-- a function that tells elements apart
module _ {X Y : Type 0} (f : X → Y) (apart : (x y : X) → f x ≡ f y → x ≡ y) where
  Contains-map : (xs : List X) (x : X) → Contains xs x → Contains (map f xs) (f x)
  Contains-map xs x it = (it.0, subst (λ (n : ℕ). it.0 < n) (sym (length-map xs f)) it.1, get_or-map f xs it.0 x (f x) it.1 ∙ ap f it.2)

  Contains-unmap : (xs : List X) (x : X) → Contains (map f xs) (f x) → Contains xs x
  Contains-unmap xs x it =
      let low : it.0 < length xs = subst (λ (n : ℕ). it.0 < n) (length-map xs f) it.1 in
      (it.0, low, apart (get_or xs it.0 x) x (sym (get_or-map f xs it.0 x (f x) low) ∙ it.2))

  -- what is mapped to the same, in any order, holds the same
  pub Contains-mapped : (xs ys : List X) (x : X) → IsPermutation (map f xs) (map f ys) → Contains xs x → Contains ys x
  Contains-mapped xs ys x same it = Contains-unmap ys x (Contains-permutation (map f xs) (map f ys) (f x) same (Contains-map xs x it))

-- a value for each element that passes
pub flat_map-filter : {X Y : Type 0} (test : X → Bool) (f : X → Y) (xs : List X) → flat_map (λ x. cond (test x) (f x ∷ []) []) xs ≡ map f (filter test xs)
flat_map-filter test f [] = refl
flat_map-filter test f (x ∷ xs) = one (test x) (flat_map-filter test f xs)
  where
    one : (b : Bool) → flat_map (λ y. cond (test y) (f y ∷ []) []) xs ≡ map f (filter test xs)
        → cond b (f x ∷ []) [] ++ flat_map (λ y. cond (test y) (f y ∷ []) []) xs ≡ map f (cond b (x ∷ filter test xs) (filter test xs))
    one true later = ap (λ ys. f x ∷ ys) later
    one false later = later
