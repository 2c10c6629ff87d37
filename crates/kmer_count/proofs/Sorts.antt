-- The pairs of a map that counts, once they are sorted.
use Rattle.std.proofs.Common.{◌≡◌, ◌≢◌, ℕ, zero, suc, ◌<◌, List, [], ◌∷◌, Bool, true, false, cond, eqb, get_or, length, map, refl, sym, ap, ◌∙◌, subst, arith, Some, None, Option, ⊎_elim}
use Rattle.std.specs.List.{IsDistinct}
use Rattle.std.specs.List.Sorted.{IsPermutation, IsNonDecreasingBy, IsStrictlySortedBy}
use Rattle.std.specs.Option.{option_map}
use Rattle.std.specs.Map.{keys_of}
use Rattle.std.specs.BTreeMap.{is_at}
use Rattle.std.specs.Ordering.{nat_cmp, is_eq, eq_by_cmp}
use Rattle.std.specs.Cmp.{eq_by_cmp_equiv, tied_itself}
use Rattle.std.specs.Cmp.Lexicographic.{slice_cmp}
use Rattle.std.proofs.lemmas.Bool.{cases_eq, eq-eqb, ne_eqb, eqb-true, false_from_ne_true}
use Rattle.std.proofs.lemmas.Cmp.{nat_cmp_total, nat_list_cmp_total}
use Rattle.std.proofs.lemmas.Map.Lookups.{exact_unsigned, exact_bytes}
use Rattle.std.proofs.lemmas.Map.Views.{tells_apart, Contains-from_lookup, lookup-from_Contains}
use Rattle.std.proofs.lemmas.Map.Keys.{IsDistinct-from_apart, IsDistinct-IsPermutation, IsStrictlyIncreasing-from_distinct, sorted_from_strictly_increasing}
use Rattle.std.proofs.lemmas.List.{get_or-map, length-map}
use Rattle.std.proofs.lemmas.List.Sorted.{IsPermutation-map, IsPermutation-sym, Contains-permutation}
use Rattle.std.proofs.lemmas.Option.{none-some}
use mathlib.Core.Option as plain
use lib.ListN.{get_elem?}
use Rattle.bcl_words.specs.Numbers.{one_word}
use Rattle.bcl_words.specs.NumberLaws.{one_same}
use Rattle.bcl_event.specs.Map.{Pairs, value_at}
use Rattle.bcl_map.specs.Closed.{in_words, IsOnce}
use Rattle.kmer_text.specs.Kmers.{number_of}
use Rattle.kmer_text.specs.Windows.{all_windows}
use Rattle.kmer_rows.specs.Counts.{times, noted, AreCounts}
use Rattle.kmer_rows.proofs.Entries.{found, at_same, at_other}

abbrev Entries : Type 0
Entries = List (ℕ × ℕ)

-- ---- entries at their words

abbrev words : Entries → Pairs
words es = in_words one_word one_word es

same_test : (q k : ℕ) → is_at (slice_cmp nat_cmp (one_word q)) (one_word k) ≡ is_at (nat_cmp q) k
same_test q k = ⊎_elim
    (λ (e : q ≡ k). subst (λ (x : ℕ). is_at (slice_cmp nat_cmp (one_word q)) (one_word x) ≡ true) e itself ∙ sym (at_same q k e))
    (λ (ne : q ≢ k). false_from_ne_true _ (λ t. ne (one_same q k (tells_apart exact_bytes (one_word q) (one_word k) t))) ∙ sym (at_other q k ne))
    (cases_eq q k)
  where
    itself : is_at (slice_cmp nat_cmp (one_word q)) (one_word q) ≡ true
    itself = ap is_eq (tied_itself nat_list_cmp_total (one_word q))

found_in_words : (q : ℕ) (es : Entries) → value_at (one_word q) (words es) ≡ option_map one_word (found es q)
found_in_words q [] = refl
found_in_words q (e ∷ es) =
    ap (λ b. cond b (Some (one_word e.1)) (value_at (one_word q) (words es))) (same_test q e.0)
    ∙ (ap (cond (is_at (nat_cmp q) e.0) (Some (one_word e.1))) (found_in_words q es) ∙ out (is_at (nat_cmp q) e.0))
  where
    out : (b : Bool) → cond b (Some (one_word e.1)) (option_map one_word (found es q)) ≡ option_map one_word (cond b (Some e.1) (found es q))
    out true = refl
    out false = refl

same_option : (a b : Option ℕ) → option_map one_word a ≡ option_map one_word b → a ≡ b
same_option None None e = refl
same_option None (Some y) e = absurd (none-some (one_word y) e)
same_option (Some x) None e = absurd (none-some (one_word x) (sym e))
same_option (Some x) (Some y) e = cc

words_at : (es : Entries) (i : ℕ) (d : ℕ × ℕ) → i < length es → get_elem? (words es) i ≡ plain.some (one_word (get_or es i d).0, one_word (get_or es i d).1)
words_at [] i d low = absurd (omega arith)
words_at (e ∷ es) zero d low = refl
words_at (e ∷ es) (suc i) d low = words_at es i d (omega arith)

distinct : (eq : ℕ → ℕ → Bool) → ((x y : ℕ) → eq x y ≡ true → x ≡ y) → (es : Entries) → IsOnce (words es) → IsDistinct eq (keys_of es)
distinct eq exact es once = IsDistinct-from_apart eq (keys_of es) (λ i j d low high.
    let n : length (keys_of es) ≡ length es = length-map es (λ (e : ℕ × ℕ). e.0) in
    let a = get_or es i (d, d) in let b = get_or es j (d, d) in
    let ka : get_or (keys_of es) i d ≡ a.0 = get_or-map (λ (e : ℕ × ℕ). e.0) es i (d, d) d (omega arith) in
    let kb : get_or (keys_of es) j d ≡ b.0 = get_or-map (λ (e : ℕ × ℕ). e.0) es j (d, d) d (omega arith) in
    false_from_ne_true _ (λ t.
    let same : a.0 ≡ b.0 = sym ka ∙ (exact (get_or (keys_of es) i d) (get_or (keys_of es) j d) t ∙ kb) in
    let pa : get_elem? (words es) i ≡ plain.some (one_word a.0, one_word a.1) = words_at es i (d, d) (omega arith) in
    let pb : get_elem? (words es) j ≡ plain.some (one_word b.0, one_word b.1) = words_at es j (d, d) (omega arith) in
    let i_is_j = once i j (one_word a.0) (one_word a.1) (one_word b.1) pa (subst (λ (x : ℕ). get_elem? (words es) j ≡ plain.some (one_word x, one_word b.1)) (sym same) pb) in
    omega arith))

module _ (es sorted : Entries) (once : IsOnce (words es)) (moved : IsPermutation es sorted) where
  keys_moved : IsPermutation (keys_of es) (keys_of sorted)
  keys_moved = IsPermutation-map (λ (e : ℕ × ℕ). e.0) es sorted moved

  flips : (x y : ℕ) → eqb x y ≡ eqb y x
  flips x y = ⊎_elim (λ (e : x ≡ y). eq-eqb x y e ∙ sym (eq-eqb y x (sym e))) (λ (ne : x ≢ y). ne_eqb x y ne ∙ sym (ne_eqb y x (λ e. ne (sym e)))) (cases_eq x y)

  eq_exact : (x y : ℕ) → eq_by_cmp nat_cmp x y ≡ true → x ≡ y
  eq_exact x y t = tells_apart exact_unsigned x y t

  eq_flips : (x y : ℕ) → eq_by_cmp nat_cmp x y ≡ eq_by_cmp nat_cmp y x
  eq_flips x y = ⊎_elim (λ (e : x ≡ y). at_same x y e ∙ sym (at_same y x (sym e))) (λ (ne : x ≢ y). at_other x y ne ∙ sym (at_other y x (λ e. ne (sym e)))) (cases_eq x y)

  apart : IsDistinct (eq_by_cmp nat_cmp) (keys_of es)
  apart = distinct (eq_by_cmp nat_cmp) eq_exact es once

  sorted_apart : IsDistinct (eq_by_cmp nat_cmp) (keys_of sorted)
  sorted_apart = IsDistinct-IsPermutation (eq_by_cmp nat_cmp) eq_flips (keys_of es) (keys_of sorted) keys_moved apart

  same_found : (q : ℕ) → found sorted q ≡ found es q
  same_found q = at (found es q) refl (found sorted q) refl
    where
      there : (xs ys : Entries) → IsPermutation xs ys → IsDistinct (eq_by_cmp nat_cmp) (keys_of ys) → (v : ℕ) → found xs q ≡ Some v → found ys q ≡ Some v
      there xs ys perm dist v e = lookup-from_Contains (eq_by_cmp_equiv nat_cmp_total) q v ys dist (Contains-permutation xs ys (q, v) perm (Contains-from_lookup eq_exact q v xs e))

      at : (a : Option ℕ) → found es q ≡ a → (b : Option ℕ) → found sorted q ≡ b → found sorted q ≡ found es q
      at (Some v) ea b eb = there es sorted moved sorted_apart v ea ∙ sym ea
      at None ea None eb = eb ∙ sym ea
      at None ea (Some v) eb = absurd (none-some v (sym ea ∙ there sorted es (IsPermutation-sym es sorted moved) apart v eb))

  rises : IsNonDecreasingBy (λ e. e.0) sorted → IsStrictlySortedBy nat_cmp (keys_of sorted)
  rises rising = sorted_from_strictly_increasing (keys_of sorted) (IsStrictlyIncreasing-from_distinct (keys_of sorted) no_fall (IsDistinct-IsPermutation eqb flips (keys_of es) (keys_of sorted) keys_moved (distinct eqb eqb-true es once)))
    where
      no_fall : IsNonDecreasingBy (λ x. x) (keys_of sorted)
      no_fall i j d order high =
          let m : length (keys_of sorted) ≡ length sorted = length-map sorted (λ (e : ℕ × ℕ). e.0) in
          let ki : get_or (keys_of sorted) i d ≡ (get_or sorted i (d, d)).0 = get_or-map (λ (e : ℕ × ℕ). e.0) sorted i (d, d) d (omega arith) in
          let kj : get_or (keys_of sorted) j d ≡ (get_or sorted j (d, d)).0 = get_or-map (λ (e : ℕ × ℕ). e.0) sorted j (d, d) d (omega arith) in
          let r = rising i j (d, d) order (omega arith) in
          omega arith

  -- where the map has what is noted of each number, its pairs are the counts
  pub sorted_are_counts : (k : ℕ) (lines : List (List ℕ)) → ((q : ℕ) → value_at (one_word q) (words es) ≡ option_map one_word (noted (times q (map number_of (all_windows k lines)))))
      → IsNonDecreasingBy (λ e. e.0) sorted → AreCounts k lines sorted
  sorted_are_counts k lines counts rising = record {
    rise = rises rising;
    each = λ q. same_found q ∙ same_option (found es q) (noted (times q (map number_of (all_windows k lines)))) (sym (found_in_words q es) ∙ counts q);
  }
