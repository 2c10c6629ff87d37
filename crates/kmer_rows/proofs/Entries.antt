-- The entries of a count.
use Rattle.std.proofs.Common.{◌≡◌, ◌∙◌, ◌≢◌, ℕ, zero, suc, ◌+◌, ◌<◌, ◌≤◌, true, false, List, [], ◌∷◌, map, ltb, Option, None, Some, unwrap_or, arith, sym, ap, refl, subst, ⊎_elim}
use Rattle.std.specs.List.{range_with_len, filter, AllByRecursion}
use Rattle.std.specs.List.Sorted.{IsStrictlySortedBy}
use Rattle.std.specs.Map.{lookup, keys_of}
use Rattle.std.specs.BTreeMap.{is_at}
use Rattle.std.specs.Ordering.{nat_cmp, is_eq}
use Rattle.std.specs.Cmp.{tied_itself, nat_cmp_is, eq_by_cmp_equiv}
use Rattle.std.specs.declared.cmp.Ordering.TheVariants.{Less}
use Rattle.std.proofs.lemmas.Cmp.{nat_cmp_total}
use Rattle.std.proofs.lemmas.Bool.{cond-true, cond-false, cases_Bool, cases_order, cases_eq, cases_lt, lt-ltb, le-ltb, false_from_ne_true}
use Rattle.std.proofs.lemmas.Map.{lookup-none}
use Rattle.std.proofs.lemmas.Map.Entries.{lookup_head, lookup_tail, none_below_head, none_past_head}
use Rattle.std.proofs.lemmas.Map.Keys.{sorted_tail, IsDistinct-from_sorted}
use Rattle.std.proofs.lemmas.Map.Lookups.{exact_unsigned}
use Rattle.std.proofs.lemmas.Map.Views.{tells_apart}
use Rattle.std.proofs.lemmas.Option.{none-some}
use Rattle.kmer_rows.specs.Counts.{noted}

abbrev pub found : List (ℕ × ℕ) → ℕ → Option ℕ
found es q = lookup (is_at (nat_cmp q)) es

pub at_same : (q k : ℕ) → q ≡ k → is_at (nat_cmp q) k ≡ true
at_same q k e = ap (λ x. is_eq (nat_cmp q x)) (sym e) ∙ ap is_eq (tied_itself nat_cmp_total q)

pub at_other : (q k : ℕ) → q ≢ k → is_at (nat_cmp q) k ≡ false
at_other q k ne = false_from_ne_true _ (λ h. ne (tells_apart exact_unsigned q k h))

-- what is noted of a number that occurs n times
counted_none : (n : ℕ) → n ≡ 0 → noted n ≡ None
counted_none n e = ap noted e

pub counted_some : (n : ℕ) → 0 < n → noted n ≡ Some n
counted_some zero h = absurd (omega arith)
counted_some (suc n) h = refl

-- the counted numbers of a range, with their counts
abbrev pub counted_in : (ℕ → ℕ) → ℕ → ℕ → List (ℕ × ℕ)
counted_in f a n = map (λ q. (q, f q)) (filter (λ q. ltb 0 (f q)) (range_with_len a n))

module _ (f : ℕ → ℕ) (a : ℕ) (some : 0 < f a) where
  module _ (e : ℕ × ℕ) (es : List (ℕ × ℕ)) (s : IsStrictlySortedBy nat_cmp (keys_of (e ∷ es)))
      (below : (q : ℕ) → q < a → found (e ∷ es) q ≡ None) (here : (q : ℕ) → a ≤ q → found (e ∷ es) q ≡ noted (f q)) where
    at_a : found (e ∷ es) a ≡ Some (f a)
    at_a = here a (omega arith) ∙ counted_some (f a) some

    -- the first entry is that of the first number that is counted
    key : e.0 ≡ a
    key = ⊎_elim (λ (same : e.0 ≡ a). same) (⊎_elim
        (λ (l : e.0 < a). absurd (none-some e.1 (sym (below e.0 l) ∙ lookup_head (is_at (nat_cmp e.0)) e es (at_same e.0 e.0 refl))))
        (λ (g : a < e.0). absurd (none-some (f a) (sym (lookup-none (is_at (nat_cmp a)) (e ∷ es) (none_below_head nat_cmp_total a e es s (sym (nat_cmp_is a e.0 Less g)))) ∙ at_a))))
        (cases_order e.0 a)

    value : e.1 ≡ f a
    value = ap (λ o. unwrap_or o e.1) (sym (lookup_head (is_at (nat_cmp a)) e es (at_same a e.0 (sym key))) ∙ at_a)

    below_rest : (q : ℕ) → q < a + 1 → found es q ≡ None
    below_rest q l = ⊎_elim
        (λ (same : q ≡ e.0). lookup-none (is_at (nat_cmp q)) es (none_past_head (eq_by_cmp_equiv nat_cmp_total) q e es (IsDistinct-from_sorted nat_cmp (keys_of (e ∷ es)) s) (at_same q e.0 same)))
        (λ (ne : q ≢ e.0). sym (lookup_tail (is_at (nat_cmp q)) e es (at_other q e.0 ne)) ∙ below q (omega (arith, key)))
        (cases_eq q e.0)

    here_rest : (q : ℕ) → a + 1 ≤ q → found es q ≡ noted (f q)
    here_rest q h = sym (lookup_tail (is_at (nat_cmp q)) e es (at_other q e.0 (λ same. absurd (omega (arith, key, same))))) ∙ here q (omega arith)

  with_head : (n : ℕ) (es : List (ℕ × ℕ)) → IsStrictlySortedBy nat_cmp (keys_of es)
      → ((q : ℕ) → q < a → found es q ≡ None) → ((q : ℕ) → a ≤ q → found es q ≡ noted (f q))
      → ((fs : List (ℕ × ℕ)) → IsStrictlySortedBy nat_cmp (keys_of fs) → ((q : ℕ) → q < a + 1 → found fs q ≡ None) → ((q : ℕ) → a + 1 ≤ q → found fs q ≡ noted (f q)) → fs ≡ counted_in f (a + 1) n)
      → es ≡ (a, f a) ∷ counted_in f (a + 1) n
  with_head n [] s below here rest = absurd (none-some (f a) (here a (omega arith) ∙ counted_some (f a) some))
  with_head n (e ∷ es) s below here rest =
      let others = rest es (sorted_tail nat_cmp e.0 (keys_of es) s) (below_rest e es s below here) (here_rest e es s below here) in
      let k = key e es s below here in
      let v = value e es s below here in
      λ i. (k i, v i) ∷ others i

-- entries that rise, with each number from a on that f counts and no other, are those of the numbers in a range behind which f counts none
pub entries_in : (f : ℕ → ℕ) (n a : ℕ) (es : List (ℕ × ℕ)) → IsStrictlySortedBy nat_cmp (keys_of es)
    → ((q : ℕ) → q < a → found es q ≡ None) → ((q : ℕ) → a ≤ q → found es q ≡ noted (f q)) → ((q : ℕ) → a + n ≤ q → f q ≡ 0)
    → es ≡ counted_in f a n
entries_in f zero a [] s below here past = refl
entries_in f zero a (e ∷ es) s below here past =
    let head : found (e ∷ es) e.0 ≡ Some e.1 = lookup_head (is_at (nat_cmp e.0)) e es (at_same e.0 e.0 refl) in
    absurd (⊎_elim
    (λ (l : e.0 < a). none-some e.1 (sym (below e.0 l) ∙ head))
    (λ (h : a ≤ e.0). none-some e.1 (sym (counted_none (f e.0) (past e.0 (omega arith))) ∙ (sym (here e.0 h) ∙ head)))
    (cases_lt e.0 a))
entries_in f (suc n) a es s below here past =
    let rest = λ (fs : List (ℕ × ℕ)) (t : IsStrictlySortedBy nat_cmp (keys_of fs)) (b : (q : ℕ) → q < a + 1 → found fs q ≡ None) (h : (q : ℕ) → a + 1 ≤ q → found fs q ≡ noted (f q)).
    entries_in f n (a + 1) fs t b h (λ q l. past q (omega arith)) in
    let none_at : f a ≡ 0 → (q : ℕ) → q < a + 1 → found es q ≡ None = λ none q l.
    ⊎_elim (λ (b : q < a). below q b) (λ (h : a ≤ q). here q h ∙ counted_none (f q) (ap f (omega arith) ∙ none)) (cases_lt q a) in
    ⊎_elim
    (λ (none : f a ≡ 0).
    rest es s (none_at none) (λ q h. here q (omega arith))
    ∙ ap (map (λ q. (q, f q))) (sym (cond-false (ltb 0 (f a)) (a ∷ filter (λ q. ltb 0 (f q)) (range_with_len (a + 1) n)) (filter (λ q. ltb 0 (f q)) (range_with_len (a + 1) n)) (le-ltb 0 (f a) (omega arith)))))
    (λ (ne : f a ≢ 0).
    with_head f a (omega arith) n es s below here rest
    ∙ ap (map (λ q. (q, f q))) (sym (cond-true (ltb 0 (f a)) (a ∷ filter (λ q. ltb 0 (f q)) (range_with_len (a + 1) n)) (filter (λ q. ltb 0 (f q)) (range_with_len (a + 1) n)) (lt-ltb 0 (f a) (omega arith)))))
    (cases_eq (f a) 0)

-- their keys are in the range
pub keys_in : (f : ℕ → ℕ) (a n : ℕ) → AllByRecursion (λ e. e.0 < a + n) (counted_in f a n)
keys_in f a zero = tt
keys_in f a (suc n) =
    let P : List (ℕ × ℕ) → Type 0 = AllByRecursion (λ e. e.0 < a + suc n) in
    let behind : AllByRecursion (λ e. e.0 < a + 1 + n) (counted_in f (a + 1) n) = keys_in f (a + 1) n in
    let bound : a + 1 + n ≡ a + suc n = omega arith in
    let rest : P (counted_in f (a + 1) n) = subst (λ m. AllByRecursion (λ e. e.0 < m) (counted_in f (a + 1) n)) bound behind in
    let numbers = filter (λ q. ltb 0 (f q)) (range_with_len (a + 1) n) in
    ⊎_elim
    (λ (yes : ltb 0 (f a) ≡ true). subst (λ qs. P (map (λ q. (q, f q)) qs)) (sym (cond-true (ltb 0 (f a)) (a ∷ numbers) numbers yes)) (omega arith, rest))
    (λ (no : ltb 0 (f a) ≡ false). subst (λ qs. P (map (λ q. (q, f q)) qs)) (sym (cond-false (ltb 0 (f a)) (a ∷ numbers) numbers no)) rest)
    (cases_Bool (ltb 0 (f a)))
