-- How many words fit, and the test of it; and the words of an object past its own.
use Rattle.std.proofs.Common.{◌≡◌, ℕ, ◌+◌, ◌-◌, ◌<◌, ◌≤◌, List, slice_index, sym, ap, ◌∙◌, arith, rules}
use Rattle.std.specs.Prelude.{true}
use Rattle.std.proofs.lemmas.Bool.Decides.{nat_tests}
use Rattle.std.proofs.lemmas.List.{get_or-replicate, get_or-drop}
use Rattle.bcl_words.specs.Words.{Fits, IsWords, is_fit}

pub fits_of : (n : ℕ) → is_fit n ≡ true → Fits n
fits_of n fit = grind (arith, nat_tests, rules)

pub fits_by : (n : ℕ) → Fits n → is_fit n ≡ true
fits_by n fits = let least = fits.least in let most = fits.most in grind (arith, nat_tests)

-- they are zeros
pub past : (width : ℕ) (w : List ℕ) → IsWords width w → (b : ℕ) → width ≤ b → b < 8 → slice_index w b ≡ 0
past width w is b most below = let at : width + (b - width) ≡ b = omega arith in
    ap (slice_index w) (sym at) ∙ sym (get_or-drop width w (b - width) 0) ∙ ap (λ (l : List ℕ). slice_index l (b - width)) is.zeros ∙ get_or-replicate (8 - width) (b - width) 0 0 (omega arith)
