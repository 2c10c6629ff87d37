-- Numbers in a row.
use Rattle.std.proofs.Common.{◌≡◌, ◌∙◌, ℕ, zero, suc, ◌+◌, ◌<◌, ◌∷◌, ◌++◌, map, arith, ap, refl}
use Rattle.std.specs.List.{range_with_len}

pub map_range : {X : Type 0} (f g : ℕ → X) (a b n : ℕ) → ((i : ℕ) → i < n → f (a + i) ≡ g (b + i)) → map f (range_with_len a n) ≡ map g (range_with_len b n)
map_range f g a b zero h = refl
map_range f g a b (suc n) h =
    let first : f a ≡ g b = ap f (omega arith) ∙ (h 0 (omega arith) ∙ ap g (omega arith)) in
    ap (λ x. x ∷ map f (range_with_len (a + 1) n)) first
    ∙ ap (λ xs. g b ∷ xs) (map_range f g (a + 1) (b + 1) n (λ i l. ap f (omega arith) ∙ (h (i + 1) (omega arith) ∙ ap g (omega arith))))

pub range-append : (a m n : ℕ) → range_with_len a (m + n) ≡ range_with_len a m ++ range_with_len (a + m) n
range-append a zero n =
    let none : zero + n ≡ n = omega arith in
    let here : a ≡ a + zero = omega arith in
    ap (range_with_len a) none ∙ ap (λ b. range_with_len b n) here
range-append a (suc m) n =
    let more : suc m + n ≡ suc (m + n) = omega arith in
    let further : a + 1 + m ≡ a + suc m = omega arith in
    ap (range_with_len a) more ∙ ap (λ xs. a ∷ xs) (range-append (a + 1) m n ∙ ap (λ b. range_with_len (a + 1) m ++ range_with_len b n) further)
