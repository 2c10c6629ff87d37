-- A sort puts texts in byte order.
use Rattle.std.proofs.Common.{◌≡◌, ◌∙◌, ℕ, zero, suc, ◌+◌, ◌<◌, ◌≤◌, Bool, true, false, List, [], ◌∷◌, length, map, get_or, cond, arith, sym, ap, refl, subst, add-one, ⊎_elim}
use Rattle.std.specs.List.{AllByRecursion, sum_by}
use Rattle.std.specs.List.Sorted.{IsPermutation, IsSorted}
use Rattle.std.specs.Cmp.{IsStrictWeakOrder}
use Rattle.std.specs.Cmp.Lexicographic.{slice_cmp}
use Rattle.std.specs.Ordering.{nat_cmp, is_lt, ordering_reverse}
use Rattle.std.specs.declared.cmp.Ordering.{Ordering}
use Rattle.std.specs.declared.cmp.Ordering.TheVariants.{Less, Equal, Greater}
use Rattle.std.proofs.lemmas.Bool.{cond-true, cond-false, cases_Bool}
use Rattle.std.proofs.lemmas.Cmp.{nat_list_cmp_total}
use Rattle.std.proofs.lemmas.List.Elements.{All-from_recursion, recursion_from_All}
use Rattle.std.proofs.lemmas.List.Sums.{sum_by-cons}
use Rattle.std.proofs.lemmas.List.Sorted.{ranks_by, sorted_far, sum_by-IsPermutation, IsPermutation-map, IsPermutation-refl, IsPermutation-trans, IsPermutation-cons, IsPermutation-swap}
use Rattle.std.proofs.lemmas.Map.Lookups.{exact_bytes}
use Rattle.kmer_paths.specs.Contigs.{insert_text, in_byte_order}
use Rattle.kmer_paths.proofs.Bytes.{bytes_of, bytes-append}

-- ---- the order of texts
abbrev before : List ℕ → List ℕ → Bool
before x y = is_lt (slice_cmp nat_cmp x y)

order : IsStrictWeakOrder before
order = ranks_by nat_list_cmp_total (λ x. x)

-- two texts of which neither is before the other are one
same_text : (x y : List ℕ) → before x y ≡ false → before y x ≡ false → x ≡ y
same_text x y p q = exact_bytes x y (tie (slice_cmp nat_cmp x y) (slice_cmp nat_cmp y x) (nat_list_cmp_total.antisymm x y) p q)
  where
    tie : (r s : Ordering) → r ≡ ordering_reverse s → is_lt r ≡ false → is_lt s ≡ false → r ≡ Equal
    tie Equal s e p q = refl
    tie Less s e p q = absurd (cc)
    tie Greater Less e p q = absurd (cc)
    tie Greater Equal e p q = absurd (cc)
    tie Greater Greater e p q = absurd (cc)

-- ---- rising lists
-- no later element is before an earlier one
abbrev Rises : {X : Type 0} → (X → X → Bool) → List X → Type 0
Rises lt [] = Unit {0}
Rises lt (x ∷ xs) = AllByRecursion (λ y. lt y x ≡ false) xs × Rises lt xs

rises : {X : Type 0} (lt : X → X → Bool) → IsStrictWeakOrder lt → (xs : List X) → ((i j : ℕ) (d : X) → i ≤ j → j < length xs → lt (get_or xs j d) (get_or xs i d) ≡ false) → Rises lt xs
rises lt o [] far = tt
rises lt o (x ∷ xs) far =
    (recursion_from_All (λ y. lt y x ≡ false) xs (λ i d l. far 0 (suc i) d (omega arith) (omega arith)), rises lt o xs (λ i j d l h. far (suc i) (suc j) d (omega arith) (omega arith)))

rises-map : {X : Type 0} (text_in : X → List ℕ) (xs : List X) → Rises (λ x y. before (text_in x) (text_in y)) xs → Rises before (map text_in xs)
rises-map {X = X} text_in [] up = tt
rises-map {X = X} text_in (x ∷ xs) up = (all-map xs up.0, rises-map text_in xs up.1)
  where
    all-map : (ys : List X) → AllByRecursion (λ y. before (text_in y) (text_in x) ≡ false) ys → AllByRecursion (λ t. before t (text_in x) ≡ false) (map text_in ys)
    all-map [] h = tt
    all-map (y ∷ ys) h = (h.0, all-map ys h.1)

-- ---- the definition rises
all-insert : (P : List ℕ → Type 0) (t : List ℕ) (ts : List (List ℕ)) → P t → AllByRecursion P ts → AllByRecursion P (insert_text t ts)
all-insert P t [] h hs = (h, tt)
all-insert P t (s ∷ ts) h hs =
    ⊎_elim
    (λ (yes' : before s t ≡ true). subst (AllByRecursion P) (sym (cond-true (before s t) (s ∷ insert_text t ts) (t ∷ s ∷ ts) yes')) (hs.0, all-insert P t ts h hs.1))
    (λ (no' : before s t ≡ false). subst (AllByRecursion P) (sym (cond-false (before s t) (s ∷ insert_text t ts) (t ∷ s ∷ ts) no')) (h, hs))
    (cases_Bool (before s t))

none_before : (s t : List ℕ) (ts : List (List ℕ)) → before s t ≡ false → AllByRecursion (λ y. before y s ≡ false) ts → AllByRecursion (λ y. before y t ≡ false) ts
none_before s t [] h hs = tt
none_before s t (y ∷ ts) h hs = (order.chain y s t hs.0 h, none_before s t ts h hs.1)

rises-insert : (t : List ℕ) (ts : List (List ℕ)) → Rises before ts → Rises before (insert_text t ts)
rises-insert t [] up = (tt, tt)
rises-insert t (s ∷ ts) up =
    ⊎_elim
    (λ (yes' : before s t ≡ true).
    subst (Rises before) (sym (cond-true (before s t) (s ∷ insert_text t ts) (t ∷ s ∷ ts) yes'))
    (all-insert (λ y. before y s ≡ false) t ts (order.one_way s t yes') up.0, rises-insert t ts up.1))
    (λ (no' : before s t ≡ false).
    subst (Rises before) (sym (cond-false (before s t) (s ∷ insert_text t ts) (t ∷ s ∷ ts) no'))
    ((no', none_before s t ts no' up.0), up))
    (cases_Bool (before s t))

rises-sorted : (ts : List (List ℕ)) → Rises before (in_byte_order ts)
rises-sorted [] = tt
rises-sorted (t ∷ ts) = rises-insert t (in_byte_order ts) (rises-sorted ts)

-- ---- and has the same texts
sum-insert : (f : List ℕ → ℕ) (t : List ℕ) (ts : List (List ℕ)) → sum_by f (insert_text t ts) ≡ f t + sum_by f ts
sum-insert f t [] = sum_by-cons f t []
sum-insert f t (s ∷ ts) =
    ⊎_elim
    (λ (yes' : before s t ≡ true).
    ap (sum_by f) (cond-true (before s t) (s ∷ insert_text t ts) (t ∷ s ∷ ts) yes')
    ∙ omega (arith, sum_by-cons f s (insert_text t ts), sum-insert f t ts, sum_by-cons f s ts))
    (λ (no' : before s t ≡ false). ap (sum_by f) (cond-false (before s t) (s ∷ insert_text t ts) (t ∷ s ∷ ts) no') ∙ sum_by-cons f t (s ∷ ts))
    (cases_Bool (before s t))

sum-sorted : (f : List ℕ → ℕ) (ts : List (List ℕ)) → sum_by f (in_byte_order ts) ≡ sum_by f ts
sum-sorted f [] = refl
sum-sorted f (t ∷ ts) = omega (arith, sum-insert f t (in_byte_order ts), sum-sorted f ts, sum_by-cons f t ts)

insert-permutes : (t : List ℕ) (ts : List (List ℕ)) → IsPermutation (t ∷ ts) (insert_text t ts)
insert-permutes t [] = IsPermutation-refl (t ∷ [])
insert-permutes t (s ∷ ts) =
    let P : List (List ℕ) → Type 0 = λ new. IsPermutation (t ∷ s ∷ ts) new in
    ⊎_elim
    (λ (yes' : before s t ≡ true).
    subst P (sym (cond-true (before s t) (s ∷ insert_text t ts) (t ∷ s ∷ ts) yes'))
    (IsPermutation-trans (t ∷ s ∷ ts) (s ∷ t ∷ ts) (s ∷ insert_text t ts)
    (IsPermutation-swap (t ∷ s ∷ ts) (s ∷ t ∷ ts) 0 1 (omega arith) (omega arith) refl)
    (IsPermutation-cons s (t ∷ ts) (insert_text t ts) (insert-permutes t ts))))
    (λ (no' : before s t ≡ false). subst P (sym (cond-false (before s t) (s ∷ insert_text t ts) (t ∷ s ∷ ts) no')) (IsPermutation-refl (t ∷ s ∷ ts)))
    (cases_Bool (before s t))

pub order-permutes : (ts : List (List ℕ)) → IsPermutation ts (in_byte_order ts)
order-permutes [] = IsPermutation-refl []
order-permutes (t ∷ ts) =
    IsPermutation-trans (t ∷ ts) (t ∷ in_byte_order ts) (insert_text t (in_byte_order ts))
    (IsPermutation-cons t ts (in_byte_order ts) (order-permutes ts)) (insert-permutes t (in_byte_order ts))

next_rises : (ts : List (List ℕ)) → Rises before ts → (k : ℕ) (d : List ℕ) → suc k < length ts → before (get_or ts (suc k) d) (get_or ts k d) ≡ false
next_rises [] up k d h = absurd (omega arith)
next_rises (t ∷ ts) up zero d h = All-from_recursion (λ y. before y t ≡ false) ts up.0 0 d (omega arith)
next_rises (t ∷ ts) up (suc k) d h = next_rises ts up.1 k d (omega arith)

pub order-rises : (ts : List (List ℕ)) → IsSorted (slice_cmp nat_cmp) (in_byte_order ts)
order-rises ts k d low h =
    let all = in_byte_order ts in
    subst (λ j. before (get_or all j d) (get_or all k d) ≡ false) (sym (add-one k)) (next_rises all (rises-sorted ts) k d (omega (arith, h)))

-- ---- two rising lists with the same texts are one
-- how many are before a text
abbrev earlier : List ℕ → List ℕ → ℕ
earlier t x = cond (before x t) 1 0

none_earlier : (t : List ℕ) (xs : List (List ℕ)) → AllByRecursion (λ y. before y t ≡ false) xs → sum_by (earlier t) xs ≡ 0
none_earlier t [] h = refl
none_earlier t (x ∷ xs) h = omega (arith, sum_by-cons (earlier t) x xs, cond-false {A = ℕ} (before x t) 1 0 h.0, none_earlier t xs h.1)

-- the first of a rising list is before none of another with the same texts
first_least : (x y : List ℕ) (xs ys : List (List ℕ)) → Rises before (y ∷ ys) → ((f : List ℕ → ℕ) → sum_by f (x ∷ xs) ≡ sum_by f (y ∷ ys)) → before x y ≡ false
first_least x y xs ys up same =
    ⊎_elim
    (λ (yes' : before x y ≡ true).
    let self : before y y ≡ false = irreflexive y in
    let none : sum_by (earlier y) (y ∷ ys) ≡ 0 = none_earlier y (y ∷ ys) (self, up.0) in
    absurd (omega (arith, none, same (earlier y), sum_by-cons (earlier y) x xs, cond-true {A = ℕ} (before x y) 1 0 yes')))
    (λ (no' : before x y ≡ false). no')
    (cases_Bool (before x y))
  where
    irreflexive : (t : List ℕ) → before t t ≡ false
    irreflexive t = ⊎_elim (λ (yes' : before t t ≡ true). order.one_way t t yes') (λ (no' : before t t ≡ false). no') (cases_Bool (before t t))

one_order : (xs ys : List (List ℕ)) → Rises before xs → Rises before ys → ((f : List ℕ → ℕ) → sum_by f xs ≡ sum_by f ys) → xs ≡ ys
one_order [] [] p q same = refl
one_order [] (y ∷ ys) p q same = absurd (omega (arith, same (λ _. 1), sum_by-cons (λ _. 1) y ys))
one_order (x ∷ xs) [] p q same = absurd (omega (arith, same (λ _. 1), sum_by-cons (λ _. 1) x xs))
one_order (x ∷ xs) (y ∷ ys) p q same =
    let first : x ≡ y = same_text x y (first_least x y xs ys q same) (first_least y x ys xs p (λ f. sym (same f))) in
    let rest : (f : List ℕ → ℕ) → sum_by f xs ≡ sum_by f ys = λ f. omega (arith, same f, ap f first, sum_by-cons f x xs, sum_by-cons f y ys) in
    λ i. first i ∷ one_order xs ys p.1 q.1 rest i

-- what a sort of texts leaves
pub sorted_texts : {X : Type 0} (text_in : X → List ℕ) (xs ys : List X) → IsPermutation xs ys → IsSorted (λ x y. slice_cmp nat_cmp (text_in x) (text_in y)) ys
    → map text_in ys ≡ in_byte_order (map text_in xs)
sorted_texts {X = X} text_in xs ys moved up =
    let lt : X → X → Bool = λ x y. before (text_in x) (text_in y) in
    let by = ranks_by nat_list_cmp_total text_in in
    one_order (map text_in ys) (in_byte_order (map text_in xs))
    (rises-map text_in ys (rises lt by ys (sorted_far lt by ys up)))
    (rises-sorted (map text_in xs))
    (λ f. sum_by-IsPermutation f (map text_in xs) (map text_in ys) (IsPermutation-map text_in xs ys moved) ∙ sym (sum-sorted f (map text_in xs)))

-- the order changes nothing of how long a text is
bytes-insert : (t : List ℕ) (ts : List (List ℕ)) → bytes_of (insert_text t ts) ≡ bytes_of (t ∷ ts)
bytes-insert t [] = refl
bytes-insert t (s ∷ ts) =
    ⊎_elim
    (λ (yes' : before s t ≡ true).
    ap bytes_of (cond-true (before s t) (s ∷ insert_text t ts) (t ∷ s ∷ ts) yes')
    ∙ omega (arith, bytes-append (s ∷ []) (insert_text t ts), bytes-insert t ts, bytes-append (t ∷ []) ts, bytes-append (t ∷ []) (s ∷ ts), bytes-append (s ∷ []) ts))
    (λ (no' : before s t ≡ false). ap bytes_of (cond-false (before s t) (s ∷ insert_text t ts) (t ∷ s ∷ ts) no'))
    (cases_Bool (before s t))

pub bytes-sorted : (ts : List (List ℕ)) → bytes_of (in_byte_order ts) ≡ bytes_of ts
bytes-sorted [] = refl
bytes-sorted (t ∷ ts) = omega (arith, bytes-insert t (in_byte_order ts), bytes-append (t ∷ []) (in_byte_order ts), bytes-sorted ts, bytes-append (t ∷ []) ts)
