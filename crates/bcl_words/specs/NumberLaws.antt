-- That numbers keep the laws of objects.
-- The laws of `Object` at the number types cite these.
use Rattle.std.proofs.Common.{◌≡◌, ℕ, ◌+◌, ◌*◌, ◌^◌, ◌<◌, ◌≤◌, ◌/◌, ◌%◌, List, true, ap, ap₂, sym, refl, ◌∙◌, arith}
use Rattle.std.specs.Prelude.{◌==◌, ◌↔◌, nat_lt, slice_index}
use Rattle.std.proofs.Math.Nat.{div-add-mod}
use Rattle.std.proofs.lemmas.Bool.{and_parts}
use Rattle.std.proofs.lemmas.Bool.Decides.{Decides-eqb, Decides-ltb}
use Rattle.bcl_words.specs.Words.{IsWords, is_words}
use Rattle.bcl_words.specs.Numbers.{one_word, two_words, is_below}
use Rattle.bcl_words.specs.WordLaws.{words_if_test}

-- == of numbers, where their words tell them apart
pub numbers_equal : (words : ℕ → List ℕ) (x y : ℕ) → (words x ≡ words y → x ≡ y) → ((x == y) ≡ true) ↔ (words x ≡ words y)
numbers_equal words x y same = (λ e. ap words ((Decides-eqb x y).0 e), λ e. (Decides-eqb x y).1 (same e))

-- ---- one word, below any bound

pub one_shape : (bound : ℕ) (w : List ℕ) → is_below bound w ≡ true → IsWords 1 w
one_shape bound w p = words_if_test 1 w (and_parts (is_words 1 w) (nat_lt (slice_index w 0) bound) p).0

pub one_same : (x y : ℕ) → one_word x ≡ one_word y → x ≡ y
one_same x y e = cc

pub one_passes : (bound x : ℕ) → x < bound → bound ≤ 2 ^ 64 → is_below bound (one_word x) ≡ true
one_passes bound x h fits =
    let range : x < 2 ^ 64 = omega arith in
    rw ((Decides-ltb x (2 ^ 64)).1 range, (Decides-ltb x bound).1 h) refl

-- ---- two words

pub two_same : (x y : ℕ) → two_words x ≡ two_words y → x ≡ y
two_same x y e =
    let low : x % 2 ^ 64 ≡ y % 2 ^ 64 = cc in
    let high : x / 2 ^ 64 ≡ y / 2 ^ 64 = cc in
    sym (div-add-mod x (2 ^ 64)) ∙ ap₂ (λ a b. 2 ^ 64 * a + b) high low ∙ div-add-mod y (2 ^ 64)

-- ---- at least one word

pub one_some : 1 ≤ 1
one_some = omega arith

pub two_some : 1 ≤ 2
two_some = omega arith

pub eight_some : 1 ≤ 8
eight_some = omega arith
