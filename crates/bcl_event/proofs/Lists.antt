-- Lists of items, and of their words.
-- What is known of the words of a list's items, where the items are filled in, set or read.
use Rattle.std.proofs.Common.{◌≡◌, ℕ, zero, suc, ◌-◌, ◌<◌, List, [], ◌∷◌, ◌++◌, refl, ap, ap₂, sym, ◌∙◌, arith, length, get_or, set, take, replicate}
use Rattle.std.specs.Prelude.{map}
use Rattle.std.proofs.lemmas.List.{map-set, length-map, get_or-map}

nothing : {A : Type 0} (n : ℕ) (xs : List A) → xs ≡ [] → take n xs ≡ []
nothing zero xs e = refl
nothing (suc n) xs e = ap (take (suc n)) e

filled : {A : Type 0} (n m : ℕ) (xs : List A) (a : A) → xs ≡ [] → m ≡ 0 → take n xs ++ replicate (n - m) a ≡ replicate n a
filled n m xs a e z =
    let rest : n - m ≡ n = omega arith in
    ap₂ (λ l k. l ++ replicate k a) (nothing n xs e) rest

module _ {A B : Type 0} (f : A → B) where
  map-replicate : (n : ℕ) (a : A) → map f (replicate n a) ≡ replicate n (f a)
  map-replicate zero a = refl
  map-replicate (suc n) a = ap (λ l. f a ∷ l) (map-replicate n a)

  -- an empty list that is filled up
  pub filled_in_words : (n m : ℕ) (xs ys : List A) (a : A) → xs ≡ [] → m ≡ 0 → ys ≡ take n xs ++ replicate (n - m) a → map f ys ≡ replicate n (f a)
  filled_in_words n m xs ys a e z y = ap (map f) (y ∙ filled n m xs a e z) ∙ map-replicate n a

  module _ (xs : List A) (ys : List B) (words : map f xs ≡ ys) where
    pub set_in_words : (i : ℕ) (a : A) (b : B) → f a ≡ b → map f (set xs i a) ≡ set ys i b
    set_in_words i a b e = map-set f xs i a ∙ ap₂ (λ l c. set l i c) words e

    pub read_in_words : (i : ℕ) (a : A) (d : B) → i < length ys → a ≡ get_or xs i a → get_or ys i d ≡ f a
    read_in_words i a d low e =
        let long : length ys ≡ length xs = ap length (sym words) ∙ length-map xs f in
        ap (λ l. get_or l i d) (sym words) ∙ get_or-map f xs i a d (omega arith) ∙ ap f (sym e)
