-- Lists that repeat nothing.
use Rattle.std.proofs.Common.{◌≡◌, ◌∙◌, ℕ, zero, suc, Bool, true, false, eqb, not, ◌||◌, List, [], ◌∷◌, ◌++◌, take, sym, ap, refl, ⊎_elim}
use Rattle.std.specs.List.{list_any, IsDistinct, AllByRecursion}
use Rattle.std.proofs.lemmas.Bool.{and_parts, and_from, or_cases, false_from_ne_true, eqb-true, eq-eqb}
use Rattle.kmer_paths.specs.Walks.{repeats_nothing}

-- ---- whether a test passes somewhere
pub any_parts : (p : ℕ → Bool) (x : ℕ) (xs : List ℕ) → list_any p (x ∷ xs) ≡ false → (p x ≡ false) × (list_any p xs ≡ false)
any_parts p x xs none =
    let here : p x ≡ true → ⊥ = λ h. let some : list_any p (x ∷ xs) ≡ true = ap (λ b. b || list_any p xs) h in cc in
    let no = false_from_ne_true (p x) here in
    (no, sym (ap (λ b. b || list_any p xs) no) ∙ none)

any_take : (p : ℕ → Bool) (n : ℕ) (xs : List ℕ) → list_any p xs ≡ false → list_any p (take n xs) ≡ false
any_take p zero xs none = refl
any_take p (suc n) [] none = refl
any_take p (suc n) (x ∷ xs) none =
    let parts = any_parts p x xs none in
    ap (λ b. b || list_any p (take n xs)) parts.0 ∙ any_take p n xs parts.1

pub any_push : (p : ℕ → Bool) (xs : List ℕ) (y : ℕ) → list_any p (xs ++ y ∷ []) ≡ (p y || list_any p xs)
any_push p [] y = refl
any_push p (x ∷ xs) y = ap (λ b. p x || b) (any_push p xs y) ∙ swap (p x) (p y) (list_any p xs)
  where
    swap : (a b c : Bool) → (a || (b || c)) ≡ (b || (a || c))
    swap true true c = refl
    swap true false c = refl
    swap false true c = refl
    swap false false c = refl

eqb_flip : (x y : ℕ) → eqb x y ≡ true → eqb y x ≡ true
eqb_flip x y h = eq-eqb y x (sym (eqb-true x y h))

-- ---- fronts
pub repeats-take : (n : ℕ) (xs : List ℕ) → repeats_nothing xs ≡ true → repeats_nothing (take n xs) ≡ true
repeats-take zero xs once = refl
repeats-take (suc n) [] once = refl
repeats-take (suc n) (x ∷ xs) once =
    let parts = and_parts (not (list_any (eqb x) xs)) (repeats_nothing xs) once in
    and_from (not (list_any (eqb x) (take n xs))) (repeats_nothing (take n xs))
    (ap not (any_take (eqb x) n xs (unnot (list_any (eqb x) xs) parts.0))) (repeats-take n xs parts.1)
  where
    unnot : (b : Bool) → not b ≡ true → b ≡ false
    unnot true h = sym h
    unnot false h = refl

-- ---- one more
pub repeats-push : (xs : List ℕ) (y : ℕ) → repeats_nothing xs ≡ true → list_any (eqb y) xs ≡ false → repeats_nothing (xs ++ y ∷ []) ≡ true
repeats-push [] y once new = refl
repeats-push (x ∷ xs) y once new =
    let parts = and_parts (not (list_any (eqb x) xs)) (repeats_nothing xs) once in
    let apart = any_parts (eqb y) x xs new in
    let other : eqb x y ≡ false = false_from_ne_true (eqb x y) (λ h. let flipped = eqb_flip x y h in cc) in
    and_from (not (list_any (eqb x) (xs ++ y ∷ []))) (repeats_nothing (xs ++ y ∷ []))
    (ap not (any_push (eqb x) xs y ∙ ap (λ b. b || list_any (eqb x) xs) other) ∙ parts.0)
    (repeats-push xs y parts.1 apart.1)

pub repeats-again : (xs : List ℕ) (y : ℕ) → list_any (eqb y) xs ≡ true → repeats_nothing (xs ++ y ∷ []) ≡ true → ⊥
repeats-again [] y old once = cc
repeats-again (x ∷ xs) y old once =
    let parts = and_parts (not (list_any (eqb x) (xs ++ y ∷ []))) (repeats_nothing (xs ++ y ∷ [])) once in
    ⊎_elim
    (λ (here : eqb y x ≡ true).
    let met : list_any (eqb x) (xs ++ y ∷ []) ≡ true = any_push (eqb x) xs y ∙ ap (λ b. b || list_any (eqb x) xs) (eqb_flip y x here) in
    let refuted : not (list_any (eqb x) (xs ++ y ∷ [])) ≡ false = ap not met in
    absurd (cc))
    (λ (later : list_any (eqb y) xs ≡ true). repeats-again xs y later parts.1)
    (or_cases (eqb y x) (list_any (eqb y) xs) old)

-- ---- in the words of the library
pub distinct : (xs : List ℕ) → repeats_nothing xs ≡ true → IsDistinct eqb xs
unfolding IsDistinct
distinct [] once = tt
distinct (x ∷ xs) once =
    let parts = and_parts (not (list_any (eqb x) xs)) (repeats_nothing xs) once in
    (apart x xs parts.0, distinct xs parts.1)
  where
    apart : (x : ℕ) (xs : List ℕ) → not (list_any (eqb x) xs) ≡ true → AllByRecursion (λ y. eqb x y ≡ false) xs
    apart x [] h = tt
    apart x (y ∷ ys) h =
        let none : list_any (eqb x) (y ∷ ys) ≡ false = false_from_ne_true _ (λ some. let refuted : not (list_any (eqb x) (y ∷ ys)) ≡ false = ap not some in cc) in
        let parts = any_parts (eqb x) y ys none in
        (parts.0, apart x ys (ap not parts.1))
