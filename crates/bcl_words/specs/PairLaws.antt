-- That pairs keep the laws of objects.
-- The laws of `Object` at `Pair` cite these.
use Rattle.std.specs.Prelude.{◌≡◌, ℕ, ◌+◌, ◌-◌, ◌*◌, ◌^◌, ◌≤◌, ◌%◌, ◌/◌, ◌↔◌, List, [], ◌++◌, Bool, true, false, ◌&&◌, replicate, drop, take, bit_or}
use Rattle.std.proofs.Common.{ap, ap₂, sym, subst, ◌∙◌, arith, take-append-drop, ⊎_elim}
use Rattle.std.proofs.lemmas.Bool.{and_parts, and_from, cond-true, cond-false, cases_Bool, false≢true}
use Rattle.std.proofs.lemmas.List.{length-take-le, take_at, drop_at}
use Rattle.std.proofs.lemmas.Nat.{le_or_l, le_or_r}
use lib.Bits.{or_zero_r}
use Rattle.bcl_words.specs.Words.{Fits, IsWords, is_words}
use Rattle.bcl_words.specs.Pairs.{pair_count, part_of, joined, pair_words, pair_passes}
use Rattle.bcl_words.specs.WordLaws.{words_if_test}

-- where the count of a pair fits, so do its parts, and it is their sum
pub count_fits : (a b : ℕ) → pair_count a b ≤ 8 → (a + b ≤ 8) × (pair_count a b ≡ a + b)
count_fits a b h =
    let low = a % 2 ^ 32 + b % 2 ^ 32 in
    let high_a = a / 2 ^ 32 * 2 ^ 32 in
    let high_b = b / 2 ^ 32 * 2 ^ 32 in
    let l1 = le_or_l low high_a in
    let l2 = le_or_r low high_a in
    let l3 = le_or_l (bit_or low high_a) high_b in
    let l4 = le_or_r (bit_or low high_a) high_b in
    let za : high_a ≡ 0 = omega arith in
    let zb : high_b ≡ 0 = omega arith in
    let whole : low ≡ a + b = omega arith in (
      omega arith,
      ap₂ bit_or (ap (bit_or low) za) zb ∙ or_zero_r (bit_or low 0) ∙ or_zero_r low ∙ whole,
    )

-- v is so many words, and zeros
module _ (a b : ℕ) (v w : List ℕ) (room : a + b ≤ 8) (first : IsWords a v) (second : IsWords b w) where
  pub part_first : part_of 0 a (joined a b v w) ≡ v
  part_first =
      let e = take_at (take a v) (take b w ++ replicate (8 - (a + b)) 0) a (length-take-le a v (omega (arith, first.len))) in
      ap (λ l. l ++ replicate (8 - a) 0) e ∙ ap (λ l. take a v ++ l) (sym first.zeros) ∙ take-append-drop a v

  pub rest_is : drop a (joined a b v w) ≡ take b w ++ replicate (8 - (a + b)) 0
  rest_is = drop_at (take a v) (take b w ++ replicate (8 - (a + b)) 0) a (length-take-le a v (omega (arith, first.len)))

  pub part_second : part_of a b (joined a b v w) ≡ w
  part_second =
      let e = take_at (take b w) (replicate (8 - (a + b)) 0) b (length-take-le b w (omega (arith, second.len))) in
      ap (λ l. take b l ++ replicate (8 - b) 0) rest_is ∙ ap (λ l. l ++ replicate (8 - b) 0) e ∙ ap (λ l. take b w ++ l) (sym second.zeros) ∙ take-append-drop b w

module _ (a b : ℕ) (p q : List ℕ → Bool) where
  -- the words of a pair of values
  pub words_of_values : (v w : List ℕ) → p v ≡ true → q w ≡ true → pair_words a b p q v w ≡ joined a b v w
  words_of_values v w h i = cond-true (p v && q w) (joined a b v w) [] (and_from (p v) (q w) h i)

  -- where the words of a pair pass, those of its parts do
  pub parts_pass : (v w : List ℕ) → pair_passes a b p q (pair_words a b p q v w) ≡ true → (p v ≡ true) × (q w ≡ true)
  parts_pass v w h = ⊎_elim (λ t. and_parts (p v) (q w) t) (λ f. absurd (none f)) (cases_Bool (p v && q w))
    where
      none : (p v && q w) ≡ false → ⊥
      none f = false≢true (subst (λ l. pair_passes a b p q l ≡ true) (cond-false (p v && q w) (joined a b v w) [] f) h)

  module _ (fits : Fits (pair_count a b)) (shape_p : (w : List ℕ) → p w ≡ true → IsWords a w) (shape_q : (w : List ℕ) → q w ≡ true → IsWords b w) where
    pub pair_shape : (w : List ℕ) → pair_passes a b p q w ≡ true → IsWords (pair_count a b) w
    pair_shape w h =
        let c = count_fits a b fits.most in
        subst (λ n. IsWords n w) (sym c.1) (words_if_test (a + b) w (and_parts (is_words (a + b) w) (p (part_of 0 a w) && q (part_of a b w)) h).0)

    -- pairs of values with the same words have parts with the same words
    pub parts_same : (v w v' w' : List ℕ) → pair_passes a b p q (pair_words a b p q v w) ≡ true → pair_passes a b p q (pair_words a b p q v' w') ≡ true → pair_words a b p q v w ≡ pair_words a b p q v' w' → (v ≡ v') × (w ≡ w')
    parts_same v w v' w' h h' e =
        let room = (count_fits a b fits.most).0 in
        let g = parts_pass v w h in
        let g' = parts_pass v' w' h' in
        let j : joined a b v w ≡ joined a b v' w' = sym (words_of_values v w g.0 g.1) ∙ e ∙ words_of_values v' w' g'.0 g'.1 in (
          sym (part_first a b v w room (shape_p v g.0) (shape_q w g.1)) ∙ ap (part_of 0 a) j ∙ part_first a b v' w' room (shape_p v' g'.0) (shape_q w' g'.1),
          sym (part_second a b v w room (shape_p v g.0) (shape_q w g.1)) ∙ ap (part_of a b) j ∙ part_second a b v' w' room (shape_p v' g'.0) (shape_q w' g'.1),
        )

    -- == of the parts says whether the words are the same
    pub parts_equal : (v w v' w' : List ℕ) (c d : Bool) → pair_passes a b p q (pair_words a b p q v w) ≡ true → pair_passes a b p q (pair_words a b p q v' w') ≡ true
        → ((c ≡ true) ↔ (v ≡ v')) → ((d ≡ true) ↔ (w ≡ w')) → ((c && d) ≡ true) ↔ (pair_words a b p q v w ≡ pair_words a b p q v' w')
    parts_equal v w v' w' c d h h' i j = (
      (λ t. let both = and_parts c d t in ap₂ (pair_words a b p q) (i.0 both.0) (j.0 both.1)),
      (λ e. let both = parts_same v w v' w' h h' e in and_from c d (i.1 both.0) (j.1 both.1)),
    )

-- where the first part has a word, the pair has one
pub pair_some : (a b : ℕ) → 1 ≤ a → 1 ≤ pair_count a b
pair_some a b h =
    let low = a % 2 ^ 32 + b % 2 ^ 32 in
    let high = a / 2 ^ 32 * 2 ^ 32 in
    omega (arith, le_or_l low high, le_or_r low high, le_or_l (bit_or low high) (b / 2 ^ 32 * 2 ^ 32))

-- where the pair fits, its parts do
pub first_fits : (a b : ℕ) → 1 ≤ a → Fits (pair_count a b) → Fits a
first_fits a b some f = record { least = some; most = omega (arith, (count_fits a b f.most).0) }

pub second_fits : (a b : ℕ) → 1 ≤ b → Fits (pair_count a b) → Fits b
second_fits a b some f = record { least = some; most = omega (arith, (count_fits a b f.most).0) }
