-- Paths from a place to the next.
use Rattle.std.proofs.Common.{◌≡◌, ◌∙◌, ℕ, zero, suc, ◌+◌, ◌<◌, ◌≤◌, true, false, eqb, ltb, List, [], ◌∷◌, ◌++◌, length, map, take, get_or, Option, Some, None, ◌⊎◌, inl, inr, cond, arith, sym, ap, refl, subst, ⊎_elim}
use Rattle.std.specs.List.{list_any, filter, range_with_len, slice_get}
use Rattle.std.specs.Option.{option_map_or}
use Rattle.std.proofs.lemmas.Bool.{cond-true, cond-false, cases_Bool, or_cases, eqb-true, cases_lt, lt-ltb, le-ltb}
use Rattle.std.proofs.lemmas.Option.{none-some}
use Rattle.std.proofs.lemmas.Map.Steps.{length-le_from_distinct_below}
use Rattle.kmer_paths.specs.Walks.{path, repeats_nothing, longest, longest_path}
use Rattle.kmer_paths.proofs.Repeats.{repeats-take, repeats-again, distinct}

pub cases_next : {X : Type 0} (o : Option X) → (o ≡ None) ⊎ ((x : X) × (o ≡ Some x))
cases_next None = inl refl
cases_next (Some x) = inr (x, refl)

module _ (next : ℕ → Option ℕ) where
  -- ---- one step
  path-none : (n x : ℕ) → next x ≡ None → path next (suc n) x ≡ x ∷ []
  path-none n x e = ap (λ o. x ∷ option_map_or (path next n) o []) e

  path-some : (n x y : ℕ) → next x ≡ Some y → path next (suc n) x ≡ x ∷ path next n y
  path-some n x y e = ap (λ o. x ∷ option_map_or (path next n) o []) e

  pub path-one : (x : ℕ) → path next 1 x ≡ x ∷ []
  path-one x = ⊎_elim (λ (e : next x ≡ None). path-none 0 x e) (λ (e : (y : ℕ) × (next x ≡ Some y)). path-some 0 x e.0 e.1) (cases_next (next x))

  -- ---- a path and its fronts
  pub length-path : (n x : ℕ) → length (path next n x) ≤ n
  length-path zero x = omega arith
  length-path (suc n) x =
      ⊎_elim
      (λ (e : next x ≡ None). omega (arith, ap length (path-none n x e)))
      (λ (e : (y : ℕ) × (next x ≡ Some y)). omega (arith, ap length (path-some n x e.0 e.1), length-path n e.0))
      (cases_next (next x))

  pub own-path : (n x : ℕ) → path next (length (path next n x)) x ≡ path next n x
  own-path zero x = refl
  own-path (suc n) x =
      ⊎_elim
      (λ (e : next x ≡ None).
      let here = path-none n x e in
      ap (λ xs. path next (length xs) x) here ∙ (path-none 0 x e ∙ sym here))
      (λ (e : (y : ℕ) × (next x ≡ Some y)).
      let here = path-some n x e.0 e.1 in
      ap (λ xs. path next (length xs) x) here
      ∙ (path-some (length (path next n e.0)) x e.0 e.1 ∙ (ap (λ xs. x ∷ xs) (own-path n e.0) ∙ sym here)))
      (cases_next (next x))

  take-none : (n : ℕ) → take {A = ℕ} n [] ≡ []
  take-none zero = refl
  take-none (suc n) = refl

  pub take-path : (n m x : ℕ) → n ≤ m → take n (path next m x) ≡ path next n x
  take-path zero m x h = refl
  take-path (suc n) zero x h = absurd (omega arith)
  take-path (suc n) (suc m) x h =
      ⊎_elim
      (λ (e : next x ≡ None). ap (take (suc n)) (path-none m x e) ∙ (ap (λ xs. x ∷ xs) (take-none n) ∙ sym (path-none n x e)))
      (λ (e : (y : ℕ) × (next x ≡ Some y)).
      ap (take (suc n)) (path-some m x e.0 e.1) ∙ (ap (λ xs. x ∷ xs) (take-path n m e.0 (omega arith)) ∙ sym (path-some n x e.0 e.1)))
      (cases_next (next x))

  -- ---- the places of a path
  pub first-path : (n x : ℕ) → 0 < length (path next n x) → get_or (path next n x) 0 0 ≡ x
  first-path zero x h = absurd (omega arith)
  first-path (suc n) x h = refl

  -- each place but the first is the next of the one before it
  pub path-goes : (n x i : ℕ) → suc i < length (path next n x) → next (get_or (path next n x) i 0) ≡ Some (get_or (path next n x) (suc i) 0)
  path-goes zero x i h = absurd (omega arith)
  path-goes (suc n) x zero h =
      ⊎_elim
      (λ (e : next x ≡ None). absurd (omega (arith, h, ap length (path-none n x e))))
      (λ (e : (y : ℕ) × (next x ≡ Some y)).
      let here = path-some n x e.0 e.1 in
      e.1 ∙ ap Some (sym (ap (λ xs. get_or xs 1 0) here ∙ first-path n e.0 (omega (arith, h, ap length here)))))
      (cases_next (next x))
  path-goes (suc n) x (suc i) h =
      ⊎_elim
      (λ (e : next x ≡ None). absurd (omega (arith, h, ap length (path-none n x e))))
      (λ (e : (y : ℕ) × (next x ≡ Some y)).
      let here = path-some n x e.0 e.1 in
      let behind = path-goes n e.0 i (omega (arith, h, ap length here)) in
      subst (λ xs. next (get_or xs (suc i) 0) ≡ Some (get_or xs (suc (suc i)) 0)) (sym here) behind)
      (cases_next (next x))

  -- they are below what each next place is below
  pub path-below : (most n x q : ℕ) → ((y z : ℕ) → next y ≡ Some z → z < most) → x < most → list_any (eqb q) (path next n x) ≡ true → q < most
  path-below most zero x q bound h some = absurd (cc)
  path-below most (suc n) x q bound h some =
      ⊎_elim
      (λ (e : next x ≡ None). here x (subst (λ xs. list_any (eqb q) xs ≡ true) (path-none n x e) some) h)
      (λ (e : (y : ℕ) × (next x ≡ Some y)).
      ⊎_elim
      (λ (at : eqb q x ≡ true). omega (arith, eqb-true q x at, h))
      (λ (behind : list_any (eqb q) (path next n e.0) ≡ true). path-below most n e.0 q bound (bound x e.0 e.1) behind)
      (or_cases (eqb q x) (list_any (eqb q) (path next n e.0)) (subst (λ xs. list_any (eqb q) xs ≡ true) (path-some n x e.0 e.1) some)))
      (cases_next (next x))
    where
      here : (x : ℕ) → list_any (eqb q) (x ∷ []) ≡ true → x < most → q < most
      here x at h = ⊎_elim (λ (e : eqb q x ≡ true). omega (arith, eqb-true q x e, h)) (λ (e : false ≡ true). absurd (cc)) (or_cases (eqb q x) false at)

  -- ---- one place more
  -- behind a path of n places whose last has a next
  pub path-more : (n x y : ℕ) → length (path next (suc n) x) ≡ suc n → next (get_or (path next (suc n) x) n 0) ≡ Some y → path next (suc (suc n)) x ≡ path next (suc n) x ++ y ∷ []
  path-more zero x y long e = path-some 1 x y e ∙ (ap (λ xs. x ∷ xs) (path-one y) ∙ sym (ap (λ xs. xs ++ y ∷ []) (path-some 0 x y e)))
  path-more (suc n) x y long e =
      ⊎_elim
      (λ (none : next x ≡ None). absurd (omega (arith, long, ap length (path-none (suc n) x none))))
      (λ (some : (z : ℕ) × (next x ≡ Some z)).
      let here = path-some (suc n) x some.0 some.1 in
      let behind : length (path next (suc n) some.0) ≡ suc n = omega (arith, long, ap length here) in
      let at : next (get_or (path next (suc n) some.0) n 0) ≡ Some y = subst (λ xs. next (get_or xs (suc n) 0) ≡ Some y) here e in
      path-some (suc (suc n)) x some.0 some.1 ∙ (ap (λ xs. x ∷ xs) (path-more n some.0 y behind at) ∙ sym (ap (λ xs. xs ++ y ∷ []) here)))
      (cases_next (next x))

  -- ---- the longest path that repeats nothing
  -- the longest of the paths of a to a + c - 1 places
  abbrev best : ℕ → ℕ → ℕ → List ℕ
  best a c x = longest (filter repeats_nothing (map (λ m. path next m x) (range_with_len a c)))

  best-passes : (a c x : ℕ) → repeats_nothing (path next a x) ≡ true
      → best a (suc c) x ≡ cond (ltb (length (path next a x)) (length (best (a + 1) c x))) (best (a + 1) c x) (path next a x)
  best-passes a c x once =
      let rest = filter repeats_nothing (map (λ m. path next m x) (range_with_len (a + 1) c)) in
      ap longest (cond-true (repeats_nothing (path next a x)) (path next a x ∷ rest) rest once)

  best-fails : (a c x : ℕ) → repeats_nothing (path next a x) ≡ false → best a (suc c) x ≡ best (a + 1) c x
  best-fails a c x twice =
      let rest = filter repeats_nothing (map (λ m. path next m x) (range_with_len (a + 1) c)) in
      ap longest (cond-false (repeats_nothing (path next a x)) (path next a x ∷ rest) rest twice)

  abbrev IsPath : ℕ → List ℕ → Type 0
  IsPath x xs = (repeats_nothing xs ≡ true) × (path next (length xs) x ≡ xs)

  best-path : (a c x : ℕ) → IsPath x (best a c x)
  best-path a zero x = (refl, refl)
  best-path a (suc c) x =
      let rest = best-path (a + 1) c x in
      ⊎_elim
      (λ (once : repeats_nothing (path next a x) ≡ true).
      let own : IsPath x (path next a x) = (once, own-path a x) in
      ⊎_elim
      (λ (less : ltb (length (path next a x)) (length (best (a + 1) c x)) ≡ true). subst (IsPath x) (sym (best-passes a c x once ∙ cond-true _ (best (a + 1) c x) (path next a x) less)) rest)
      (λ (more : ltb (length (path next a x)) (length (best (a + 1) c x)) ≡ false). subst (IsPath x) (sym (best-passes a c x once ∙ cond-false _ (best (a + 1) c x) (path next a x) more)) own)
      (cases_Bool (ltb (length (path next a x)) (length (best (a + 1) c x)))))
      (λ (twice : repeats_nothing (path next a x) ≡ false). subst (IsPath x) (sym (best-fails a c x twice)) rest)
      (cases_Bool (repeats_nothing (path next a x)))

  -- it is at least as long as each path among them that repeats nothing
  best-first : (a c x : ℕ) → repeats_nothing (path next a x) ≡ true → length (path next a x) ≤ length (best a (suc c) x)
  best-first a c x once =
      ⊎_elim
      (λ (less : length (path next a x) < length (best (a + 1) c x)).
      omega (arith, less, ap length (best-passes a c x once ∙ cond-true _ (best (a + 1) c x) (path next a x) (lt-ltb _ _ less))))
      (λ (more : length (best (a + 1) c x) ≤ length (path next a x)).
      omega (arith, ap length (best-passes a c x once ∙ cond-false _ (best (a + 1) c x) (path next a x) (le-ltb _ _ more))))
      (cases_lt (length (path next a x)) (length (best (a + 1) c x)))

  best-rest : (a c x : ℕ) → length (best (a + 1) c x) ≤ length (best a (suc c) x)
  best-rest a c x =
      ⊎_elim
      (λ (once : repeats_nothing (path next a x) ≡ true).
      ⊎_elim
      (λ (less : length (path next a x) < length (best (a + 1) c x)).
      omega (arith, ap length (best-passes a c x once ∙ cond-true _ (best (a + 1) c x) (path next a x) (lt-ltb _ _ less))))
      (λ (more : length (best (a + 1) c x) ≤ length (path next a x)).
      omega (arith, more, ap length (best-passes a c x once ∙ cond-false _ (best (a + 1) c x) (path next a x) (le-ltb _ _ more))))
      (cases_lt (length (path next a x)) (length (best (a + 1) c x))))
      (λ (twice : repeats_nothing (path next a x) ≡ false). omega (arith, ap length (best-fails a c x twice)))
      (cases_Bool (repeats_nothing (path next a x)))

  best-most : (a c m x : ℕ) → a ≤ m → m < a + c → repeats_nothing (path next m x) ≡ true → length (path next m x) ≤ length (best a c x)
  best-most a zero m x low high once = absurd (omega arith)
  best-most a (suc c) m x low high once =
      ⊎_elim
      (λ (more : a < m). omega (arith, best-most (a + 1) c m x (omega arith) (omega arith) once, best-rest a c x))
      (λ (same : m ≤ a).
      let e : m ≡ a = omega arith in
      subst (λ n. length (path next n x) ≤ length (best a (suc c) x)) (sym e) (best-first a c x (subst (λ n. repeats_nothing (path next n x) ≡ true) e once)))
      (cases_lt a m)

  pub longest-once : (most x : ℕ) → repeats_nothing (longest_path next most x) ≡ true
  unfolding longest_path
  longest-once most x = (best-path 0 (most + 1) x).0

  pub longest-own : (most x : ℕ) → path next (length (longest_path next most x)) x ≡ longest_path next most x
  unfolding longest_path
  longest-own most x = (best-path 0 (most + 1) x).1

  longest-within : (most m x : ℕ) → m ≤ most → repeats_nothing (path next m x) ≡ true → length (path next m x) ≤ length (longest_path next most x)
  unfolding longest_path
  longest-within most m x h once = best-most 0 (most + 1) m x (omega arith) (omega arith) once

  module _ (most : ℕ) (bound : (y z : ℕ) → next y ≡ Some z → z < most) where
    -- no path that repeats nothing has more places than there are
    pub path-few : (n x : ℕ) → x < most → repeats_nothing (path next n x) ≡ true → length (path next n x) ≤ most
    path-few n x h once = length-le_from_distinct_below (path next n x) most (distinct (path next n x) once) (λ q some. path-below most n x q bound h some)

    -- so the longest is so among all
    pub longest-most : (n x : ℕ) → x < most → repeats_nothing (path next n x) ≡ true → length (path next n x) ≤ length (longest_path next most x)
    longest-most n x h once =
        let m = length (path next n x) in
        let own = own-path n x in
        omega (arith, ap length own, longest-within most m x (path-few n x h once) (ap repeats_nothing own ∙ once))

    -- a path that repeats nothing and can't go on is the longest
    module _ (n x : ℕ) (h : x < most) (long : length (path next (suc n) x) ≡ suc n) (once : repeats_nothing (path next (suc n) x) ≡ true) where
      abbrev walked : List ℕ
      walked = longest_path next most x

      at_least : suc n ≤ length walked
      at_least = omega (arith, longest-most (suc n) x h once, long)

      is_walked : length walked ≤ suc n → walked ≡ path next (suc n) x
      is_walked few = let e : length walked ≡ suc n = omega (arith, at_least) in sym (longest-own most x) ∙ ap (λ m. path next m x) e

      front : take (suc n) walked ≡ path next (suc n) x
      front = ap (take (suc n)) (sym (longest-own most x)) ∙ take-path (suc n) (length walked) x at_least

      last_of : get_or (path next (suc n) x) n 0 ≡ get_or walked n 0
      last_of = ap (λ xs. get_or xs n 0) (sym front) ∙ get_or-take n walked
        where
          get_or-take : (n : ℕ) (xs : List ℕ) → get_or (take (suc n) xs) n 0 ≡ get_or xs n 0
          get_or-take n [] = refl
          get_or-take zero (x ∷ xs) = refl
          get_or-take (suc n) (x ∷ xs) = get_or-take n xs

      pub stays : next (get_or (path next (suc n) x) n 0) ≡ None → walked ≡ path next (suc n) x
      stays none =
          ⊎_elim
          (λ (few : length walked ≤ suc n). is_walked few)
          (λ (more : suc n < length walked).
          let on : next (get_or walked n 0) ≡ Some (get_or walked (suc n) 0) =
          subst (λ xs. suc n < length xs → next (get_or xs n 0) ≡ Some (get_or xs (suc n) 0)) (longest-own most x) (path-goes (length walked) x n) more in
          absurd (none-some (get_or walked (suc n) 0) (sym none ∙ (ap next last_of ∙ on))))
          (cases_le (length walked) (suc n))
        where
          cases_le : (a b : ℕ) → (a ≤ b) ⊎ (b < a)
          cases_le a b = ⊎_elim (λ (l : b < a). inr l) (λ (g : a ≤ b). inl g) (cases_lt b a)

      pub comes_back : (y : ℕ) → next (get_or (path next (suc n) x) n 0) ≡ Some y → list_any (eqb y) (path next (suc n) x) ≡ true → walked ≡ path next (suc n) x
      comes_back y e again =
          ⊎_elim
          (λ (more : suc n < length walked).
          let longer : take (suc (suc n)) walked ≡ path next (suc n) x ++ y ∷ [] =
          ap (take (suc (suc n))) (sym (longest-own most x)) ∙ (take-path (suc (suc n)) (length walked) x more ∙ path-more n x y long e) in
          absurd (repeats-again (path next (suc n) x) y again (ap repeats_nothing (sym longer) ∙ repeats-take (suc (suc n)) walked (longest-once most x))))
          (λ (few : length walked ≤ suc n). is_walked few)
          (cases_lt (suc n) (length walked))

  -- ---- a list that goes on by next is a path
  pub only-path : (x : ℕ) (xs : List ℕ) → slice_get xs 0 ≡ Some x → ((i : ℕ) → suc i < length xs → next (get_or xs i 0) ≡ Some (get_or xs (suc i) 0)) → path next (length xs) x ≡ xs
  only-path x [] begins goes = absurd (none-some x begins)
  only-path x (y ∷ []) begins goes =
      let same : y ≡ x = some_is y x begins in
      path-one x ∙ ap (λ n. n ∷ []) (sym same)
    where
      some_is : (y x : ℕ) → Some y ≡ Some x → y ≡ x
      some_is y x e = cc
  only-path x (y ∷ z ∷ zs) begins goes =
      let same : y ≡ x = some_is y x begins in
      let on : next x ≡ Some z = ap next (sym same) ∙ goes 0 (omega arith) in
      path-some (suc (length zs)) x z on
      ∙ (ap (λ xs. x ∷ xs) (only-path z (z ∷ zs) refl (λ i h. goes (suc i) (omega (arith, h)))) ∙ ap (λ n. n ∷ z ∷ zs) (sym same))
    where
      some_is : (y x : ℕ) → Some y ≡ Some x → y ≡ x
      some_is y x e = cc
