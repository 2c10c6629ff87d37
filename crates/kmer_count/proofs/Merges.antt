-- How often a number is merged, where all numbers are merged once each.
use Rattle.std.proofs.Common.{◌≡◌, ◌≢◌, ℕ, ◌+◌, List, [], ◌∷◌, Bool, true, false, cond, eqb, length, map, refl, sym, ap, ◌∙◌, ⊎_elim}
use Rattle.std.specs.List.{sum_by}
use Rattle.std.specs.List.Sorted.{IsPermutation}
use Rattle.std.specs.Str.{bytes_eq}
use Rattle.std.proofs.lemmas.Bool.{cases_eq, eq-eqb, ne_eqb, false_from_ne_true}
use Rattle.std.proofs.lemmas.Slice.Eq.{bytes_eq-Decides}
use Rattle.std.proofs.lemmas.List.Concat.{length-flat_map}
use Rattle.std.proofs.lemmas.List.Sums.{sum_by-cons}
use Rattle.bcl_words.specs.Numbers.{one_word}
use Rattle.bcl_words.specs.NumberLaws.{one_same}
use Rattle.bcl_event.specs.Merged.{MapHistory, merged_by, merged_for}
use Rattle.bcl_buffer.proofs.Dealt.{call_of, summed}
use Rattle.kmer_rows.specs.Counts.{times}
use Rattle.kmer_count.specs.Book.{one_more}

module _ (qs : List ℕ) (history : MapHistory) (merges : IsPermutation (map one_more qs) (map call_of history)) where
  -- as many merges for a number as it is among these
  pub each_is : (q : ℕ) → length (merged_for (one_word q) history) ≡ times q qs
  each_is q = length-flat_map (λ e. merged_by (one_word q) e.call) history ∙ (summed one_more qs history merges (λ c. length (merged_by (one_word q) c)) ∙ count qs)
    where
      test : (x : ℕ) → bytes_eq (one_word q) (one_word x) ≡ eqb x q
      test x = ⊎_elim
          (λ (e : x ≡ q). (bytes_eq-Decides (one_word q) (one_word x)).1 (ap one_word (sym e)) ∙ sym (eq-eqb x q e))
          (λ (ne : x ≢ q). false_from_ne_true _ (λ t. ne (sym (one_same q x ((bytes_eq-Decides (one_word q) (one_word x)).0 t)))) ∙ sym (ne_eqb x q ne))
          (cases_eq x q)

      one : (b : Bool) → length (cond b (one_word 1 ∷ []) []) ≡ cond b 1 0
      one true = refl
      one false = refl

      count : (qs : List ℕ) → sum_by (λ x. length (merged_by (one_word q) (one_more x))) qs ≡ times q qs
      count [] = refl
      count (x ∷ qs) =
          sum_by-cons (λ x. length (merged_by (one_word q) (one_more x))) x qs
          ∙ (ap (λ (n : ℕ). n + sum_by (λ x. length (merged_by (one_word q) (one_more x))) qs) (one (bytes_eq (one_word q) (one_word x)))
          ∙ (ap (λ b. cond b 1 0 + sum_by (λ x. length (merged_by (one_word q) (one_more x))) qs) (test x)
          ∙ (ap (λ (n : ℕ). cond (eqb x q) 1 0 + n) (count qs)
          ∙ sym (sum_by-cons (λ y. cond (eqb y q) 1 0) x qs))))
