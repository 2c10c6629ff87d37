-- The words of pairs, and pairs that are read from words.
use Rattle.std.specs.Prelude.{◌≡◌, ℕ, ◌+◌, ◌-◌, ◌^◌, ◌<◌, ◌≤◌, List, ◌++◌, Bool, true, length, replicate, drop, take}
use Rattle.std.proofs.Common.{ap, ap₂, sym, subst, ◌∙◌, arith, length-drop, length-append, take-append-drop}
use Rattle.std.proofs.lemmas.Bool.{and_from}
use Rattle.std.proofs.lemmas.List.{length-take-le, length-replicate, take_at, drop_at, drop-drop, drop-replicate}
use Rattle.std.proofs.lemmas.List.Elements.{All-append, All-take, All-replicate}
use borrow.Rule.Slice.PartMut.{put_mid}
use Rattle.bcl_words.specs.Words.{Fits, IsWords, is_words}
use Rattle.bcl_words.specs.Pairs.{pair_count, part_of, joined, pair_words, pair_passes}
use Rattle.bcl_words.specs.WordLaws.{words_if_test}
use Rattle.bcl_words.specs.PairLaws.{count_fits, part_first, rest_is, part_second, words_of_values}
use Rattle.bcl_words.proofs.WordsPass.{test_if_words}

module _ (a b : ℕ) (v w : List ℕ) (room : a + b ≤ 8) (first : IsWords a v) (second : IsWords b w) where
  pub joined_shape : IsWords (a + b) (joined a b v w)
  joined_shape =
      let z : List ℕ = replicate (8 - (a + b)) 0 in
      record {
        len = omega (arith, length-append (take a v) (take b w ++ z), length-append (take b w) z, length-take-le a v (omega (arith, first.len)), length-take-le b w (omega (arith, second.len)), length-replicate {A = ℕ} (8 - (a + b)) 0);
        in_range = All-append (λ x. x < 2 ^ 64) (take a v) (take b w ++ z) (All-take (λ x. x < 2 ^ 64) a v first.in_range)
            (All-append (λ x. x < 2 ^ 64) (take b w) z (All-take (λ x. x < 2 ^ 64) b w second.in_range) (All-replicate (λ x. x < 2 ^ 64) (8 - (a + b)) 0 (omega arith)));
        zeros = sym (drop-drop b a (joined a b v w)) ∙ ap (drop b) (rest_is a b v w room first second) ∙ drop_at (take b w) z b (length-take-le b w (omega (arith, second.len)));
      }

pub joined_parts : (a b : ℕ) (w : List ℕ) → a + b ≤ 8 → IsWords (a + b) w → joined a b (part_of 0 a w) (part_of a b w) ≡ w
joined_parts a b w room h =
    let e = take_at (take a w) (replicate (8 - a) 0) a (length-take-le a w (omega (arith, h.len))) in
    let f = take_at (take b (drop a w)) (replicate (8 - b) 0) b (length-take-le b (drop a w) (omega (arith, h.len, length-drop a w))) in
    let z : replicate (8 - (a + b)) 0 ≡ drop b (drop a w) = sym h.zeros ∙ sym (drop-drop b a w) in
    ap₂ ◌++◌ e (ap₂ ◌++◌ f z ∙ take-append-drop b (drop a w)) ∙ take-append-drop a w

module _ (a b : ℕ) (p q : List ℕ → Bool) where
  pub joined_passes : (v w : List ℕ) → a + b ≤ 8 → IsWords a v → IsWords b w → p v ≡ true → q w ≡ true → pair_passes a b p q (joined a b v w) ≡ true
  joined_passes v w room s t h i =
      and_from _ _ (test_if_words (a + b) (joined a b v w) (joined_shape a b v w room s t))
      (and_from _ _ (ap p (part_first a b v w room s t) ∙ h) (ap q (part_second a b v w room s t) ∙ i))

  pub values_pass : Fits (pair_count a b) → ((w : List ℕ) → p w ≡ true → IsWords a w) → ((w : List ℕ) → q w ≡ true → IsWords b w) → (v w : List ℕ) → p v ≡ true → q w ≡ true → pair_passes a b p q (pair_words a b p q v w) ≡ true
  values_pass fits shape_p shape_q v w h i =
      subst (λ l. pair_passes a b p q l ≡ true) (sym (words_of_values a b p q v w h i)) (joined_passes v w (count_fits a b fits.most).0 (shape_p v h) (shape_q w i) h i)

-- the parts of eight words that are those of values are the words of a pair
pub read_pair : (a b : ℕ) (p q : List ℕ → Bool) (w v v' : List ℕ) → a + b ≤ 8 → is_words (a + b) w ≡ true → p (part_of 0 a w) ≡ true → q (part_of a b w) ≡ true → v ≡ part_of 0 a w → v' ≡ part_of a b w → (pair_passes a b p q w ≡ true) × (pair_words a b p q v v' ≡ w)
read_pair a b p q w v v' room s h i e f = (
  and_from _ _ s (and_from _ _ h i),
  ap₂ (pair_words a b p q) e f ∙ words_of_values a b p q (part_of 0 a w) (part_of a b w) h i ∙ joined_parts a b w room (words_if_test (a + b) w s),
)

-- what two writes into eight zeros leave
pub joined_from_writes : (a b : ℕ) (v w x y : List ℕ) → length v ≡ 8 → a + b ≤ 8 → x ≡ take a v → y ≡ take b w → put_mid a (a + b - a) (x ++ drop a (replicate 8 0)) y ≡ joined a b v w
joined_from_writes a b v w x y len room e f =
    let z : List ℕ = replicate 8 0 in
    let n : length (take a v) ≡ a = length-take-le a v (omega arith) in
    let tail : drop (a + b - a) (drop a (take a v ++ drop a z)) ≡ replicate (8 - (a + b)) 0 =
    ap (drop (a + b - a)) (drop_at (take a v) (drop a z) a n) ∙ drop-drop (a + b - a) a z ∙ drop-replicate (a + (a + b - a)) 8 0 ∙ ap (λ k. replicate (8 - k) 0) (omega arith) in
    ap₂ (λ (p q : List ℕ). put_mid a (a + b - a) (p ++ drop a z) q) e f
    ∙ ap₂ (λ (p q : List ℕ). p ++ (take b w ++ q)) (take_at (take a v) (drop a z) a n) tail
