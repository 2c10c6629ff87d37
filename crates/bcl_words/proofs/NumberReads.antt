-- Numbers that are read from words.
use Rattle.std.proofs.Common.{◌≡◌, ℕ, ◌+◌, ◌*◌, ◌^◌, ◌<◌, ◌/◌, ◌%◌, List, [], ◌∷◌, true, ap, ap₂, sym, ◌∙◌, arith}
use Rattle.std.specs.Prelude.{slice_index}
use Rattle.bcl_words.specs.Words.{IsWords, is_words}
use Rattle.bcl_words.specs.Numbers.{one_word, two_words}
use Rattle.bcl_words.specs.WordLaws.{words_if_test}

-- one word and zeros are the word of a number
pub one_read : (w : List ℕ) → is_words 1 w ≡ true → one_word (slice_index w 0) ≡ w
one_read w p = sym (one w (words_if_test 1 w p))
  where
    one : (w : List ℕ) → IsWords 1 w → w ≡ one_word (slice_index w 0)
    one [] h = absurd (omega (arith, h.len))
    one (x ∷ xs) h = ap (λ l. x ∷ l) h.zeros

-- and so are two
pub two_read : (w : List ℕ) → is_words 2 w ≡ true → two_words (slice_index w 0 + slice_index w 1 * 2 ^ 64) ≡ w
two_read w p = sym (two w (words_if_test 2 w p))
  where
    low : (x y : ℕ) → x < 2 ^ 64 → x ≡ (x + y * 2 ^ 64) % 2 ^ 64
    low x y h = omega arith

    high : (x y : ℕ) → x < 2 ^ 64 → y ≡ (x + y * 2 ^ 64) / 2 ^ 64
    high x y h = omega arith

    two : (w : List ℕ) → IsWords 2 w → w ≡ two_words (slice_index w 0 + slice_index w 1 * 2 ^ 64)
    two [] h = absurd (omega (arith, h.len))
    two (x ∷ []) h = absurd (omega (arith, h.len))
    two (x ∷ y ∷ xs) h =
        let fits : x < 2 ^ 64 = h.in_range 0 0 (omega (arith, h.len)) in
        ap₂ (λ (a b : ℕ). a ∷ b ∷ xs) (low x y fits) (high x y fits) ∙ ap (λ l. (x + y * 2 ^ 64) % 2 ^ 64 ∷ (x + y * 2 ^ 64) / 2 ^ 64 ∷ l) h.zeros
