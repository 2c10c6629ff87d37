-- A fold by an operation that is closed, commutative and associative is the same in any order.
use Rattle.std.proofs.Common.{◌≡◌, ℕ, ◌+◌, ◌<◌, List, [], ◌∷◌, Bool, true, false, cond, refl, sym, ap, subst, add_comm, add_assoc, ◌∙◌, arith, ⊎_elim}
use Rattle.std.specs.Bool.{Decides}
use Rattle.std.specs.List.{fold, count_by, All, AllByRecursion}
use Rattle.std.proofs.lemmas.Bool.{cases_Bool, cond-true, cond-false, false≢true}
use Rattle.std.specs.Str.{bytes_eq}
use Rattle.std.proofs.lemmas.Slice.Eq.{bytes_eq-Decides}
use Rattle.std.proofs.lemmas.List.Elements.{recursion_from_All}
use Rattle.std.proofs.lemmas.List.Sums.{sum_by-cons}
use Rattle.bcl_words.specs.Merges.{HoldTheSame}

module _ {X : Type 0} (test : X → X → Bool) (decides : (x y : X) → Decides (test x y) (x ≡ y)) where
  abbrev times : X → List X → ℕ
  times x [] = 0
  times x (y ∷ ys) = cond (test x y) 1 0 + times x ys

  times_counts : (x : X) (ys : List X) → times x ys ≡ count_by (test x) ys
  times_counts x [] = refl
  times_counts x (y ∷ ys) = ap (λ n. cond (test x y) 1 0 + n) (times_counts x ys) ∙ sym (sum_by-cons (λ z. cond (test x z) 1 0) y ys)

  -- the list without the first x
  abbrev pub without : X → List X → List X
  without x [] = []
  without x (y ∷ ys) = cond (test x y) ys (y ∷ without x ys)

  here : (x : X) → test x x ≡ true
  here x = (decides x x).1 refl

  -- the other items stand as often without it
  without_times : (x z : X) (ys : List X) → 0 < times x ys → times z (without x ys) + cond (test z x) 1 0 ≡ times z ys
  without_times x z [] some = absurd (omega arith)
  without_times x z (y ∷ ys) some =
      ⊎_elim
      (λ t.
      let e : y ≡ x = sym ((decides x y).0 t) in
      ap (λ l. times z l + cond (test z x) 1 0) (cond-true (test x y) ys (y ∷ without x ys) t)
      ∙ add_comm (times z ys) (cond (test z x) 1 0) ∙ ap (λ v. cond (test z v) 1 0 + times z ys) (sym e))
      (λ f.
      let n = times x ys in
      let some' : 0 < 0 + n = subst (λ b. 0 < cond b 1 0 + n) f some in
      let ih = without_times x z ys (omega arith) in
      ap (λ l. times z l + cond (test z x) 1 0) (cond-false (test x y) ys (y ∷ without x ys) f)
      ∙ add_assoc (cond (test z y) 1 0) (times z (without x ys)) (cond (test z x) 1 0)
      ∙ ap (λ k. cond (test z y) 1 0 + k) ih)
      (cases_Bool (test x y))

  without_all : (P : X → Type 0) (x : X) (ys : List X) → AllByRecursion P ys → AllByRecursion P (without x ys)
  without_all P x [] h = tt
  without_all P x (y ∷ ys) h =
      ⊎_elim
      (λ t. subst (AllByRecursion P) (sym (cond-true (test x y) ys (y ∷ without x ys) t)) h.1)
      (λ f. subst (AllByRecursion P) (sym (cond-false (test x y) ys (y ∷ without x ys) f)) (h.0, without_all P x ys h.1))
      (cases_Bool (test x y))

  module _ (op : X → X → X) (P : X → Type 0) (closed : (a b : X) → P a → P b → P (op a b)) (comm : (a b : X) → P a → P b → op a b ≡ op b a) (assoc : (a b c : X) → P a → P b → P c → op (op a b) c ≡ op a (op b c)) where
    swapped : (a x y : X) → P a → P x → P y → op (op a y) x ≡ op (op a x) y
    swapped a x y p q r = assoc a y x p r q ∙ ap (op a) (comm y x r q) ∙ sym (assoc a x y p q r)

    fold_out : (a x : X) (ys : List X) → P a → P x → AllByRecursion P ys → 0 < times x ys → fold op a ys ≡ fold op (op a x) (without x ys)
    fold_out a x [] p q all some = absurd (omega arith)
    fold_out a x (y ∷ ys) p q all some =
        ⊎_elim
        (λ t. ap (λ z. fold op (op a z) ys) (sym ((decides x y).0 t)) ∙ ap (fold op (op a x)) (sym (cond-true (test x y) ys (y ∷ without x ys) t)))
        (λ f.
        let n = times x ys in
        let some' : 0 < 0 + n = subst (λ b. 0 < cond b 1 0 + n) f some in
        fold_out (op a y) x ys (closed a y p all.0) q all.1 (omega arith)
        ∙ ap (λ z. fold op z (without x ys)) (swapped a x y p q all.0)
        ∙ ap (fold op (op a x)) (sym (cond-false (test x y) ys (y ∷ without x ys) f)))
        (cases_Bool (test x y))

    fold_same : (a : X) (xs ys : List X) → P a → AllByRecursion P xs → AllByRecursion P ys → ((z : X) → times z xs ≡ times z ys) → fold op a xs ≡ fold op a ys
    fold_same a [] [] p all all' same = refl
    fold_same a [] (y ∷ ys) p all all' same =
        let e : 0 ≡ 1 + times y ys = subst (λ b. 0 ≡ cond b 1 0 + times y ys) (here y) (same y) in absurd (omega arith)
    fold_same a (x ∷ xs) ys p all all' same =
        let e : 1 + times x xs ≡ times x ys = subst (λ b. cond b 1 0 + times x xs ≡ times x ys) (here x) (same x) in
        let some : 0 < times x ys = omega arith in
        fold_same (op a x) xs (without x ys) (closed a x p all.0) all.1 (without_all P x ys all')
        (λ z. let h = same z in let k = without_times x z ys some in omega arith)
        ∙ sym (fold_out a x ys p all.0 all' some)

    -- whichever item comes first
    firsts_same : (x y : X) (xs ys : List X) → P x → P y → AllByRecursion P xs → AllByRecursion P ys → ((z : X) → times z (x ∷ xs) ≡ times z (y ∷ ys)) → fold op x xs ≡ fold op y ys
    firsts_same x y xs ys p q all all' same =
        ⊎_elim
        (λ t.
        let e : x ≡ y = sym ((decides y x).0 t) in
        ap (λ a. fold op a xs) e
        ∙ fold_same y xs ys q all all'
        (λ (z : X).
        let n : ℕ = cond (test z x) 1 0 in
        let m : ℕ = cond (test z y) 1 0 in
        let k : n ≡ m = ap (λ (v : X). cond {A = ℕ} (test z v) 1 0) e in
        let h : n + times z xs ≡ m + times z ys = same z in
        omega arith))
        (λ f.
        let g : test x y ≡ false = ⊎_elim (λ t. absurd (false≢true (sym f ∙ (decides y x).1 (sym ((decides x y).0 t))))) (λ u. u) (cases_Bool (test x y)) in
        let a : 0 + times y xs ≡ 1 + times y ys = subst (λ b. 0 + times y xs ≡ cond b 1 0 + times y ys) (here y) (subst (λ b. cond b 1 0 + times y xs ≡ cond (test y y) 1 0 + times y ys) f (same y)) in
        let b : 1 + times x xs ≡ 0 + times x ys = subst (λ c. 1 + times x xs ≡ cond c 1 0 + times x ys) g (subst (λ c. cond c 1 0 + times x xs ≡ cond (test x y) 1 0 + times x ys) (here x) (same x)) in
        let some : 0 < times y xs = omega arith in
        let some' : 0 < times x ys = omega arith in
        fold_out x y xs p q all some
        ∙ ap (λ v. fold op v (without y xs)) (comm x y p q)
        ∙ fold_same (op y x) (without y xs) (without x ys) (closed y x q p) (without_all P y xs all) (without_all P x ys all')
        (λ z. let h = same z in let k = without_times y z xs some in let l = without_times x z ys some' in omega arith)
        ∙ sym (fold_out y x ys q p all' some'))
        (cases_Bool (test y x))

    pub same_in_any_order : (x y : X) (xs ys : List X) → P x → P y → AllByRecursion P xs → AllByRecursion P ys → ((z : X) → count_by (test z) (x ∷ xs) ≡ count_by (test z) (y ∷ ys)) → fold op x xs ≡ fold op y ys
    same_in_any_order x y xs ys p q all all' same = firsts_same x y xs ys p q all all' (λ z. times_counts z (x ∷ xs) ∙ same z ∙ sym (times_counts z (y ∷ ys)))

-- the same at lists of words
pub fold_any_order : (passes : List ℕ → Bool) (op : List ℕ → List ℕ → List ℕ)
    → ((a b : List ℕ) → passes a ≡ true → passes b ≡ true → passes (op a b) ≡ true)
    → ((a b : List ℕ) → passes a ≡ true → passes b ≡ true → op a b ≡ op b a)
    → ((a b c : List ℕ) → passes a ≡ true → passes b ≡ true → passes c ≡ true → op (op a b) c ≡ op a (op b c))
    → (x y : List ℕ) (xs ys : List (List ℕ)) → passes x ≡ true → passes y ≡ true → All (λ w. passes w ≡ true) xs → All (λ w. passes w ≡ true) ys
    → HoldTheSame (x ∷ xs) (y ∷ ys) → fold op x xs ≡ fold op y ys
fold_any_order passes op closed comm assoc x y xs ys p q all all' same =
    same_in_any_order bytes_eq bytes_eq-Decides op (λ w. passes w ≡ true) closed comm assoc x y xs ys p q
    (recursion_from_All (λ w. passes w ≡ true) xs all) (recursion_from_All (λ w. passes w ≡ true) ys all') same
