-- The bits of a word: of one that has a bit more, of one that has the bits of another too, and of none.
use Rattle.std.proofs.Common.{◌≡◌, ℕ, zero, suc, ◌*◌, ◌%◌, ◌^◌, ◌<◌, true, false, sym, ap, ◌∙◌, ⊎_elim, refl, arith}
use Rattle.std.specs.Prelude.{◌==◌, ◌||◌, bit_or, max}
use Rattle.std.specs.Int.{w64, bit_at}
use Rattle.std.proofs.lemmas.Bool.{cases_Bool, false≢true}
use Rattle.std.proofs.lemmas.Bool.Decides.{Decides-eqb}
use Rattle.std.proofs.lemmas.Nat.Bits.{bit_at_set_same, bit_at_set_other, bit_at_or, bit_at-lt, bit_at-zero}
use Rattle.bcl_event.specs.SeqFilter.{has_bit}

pub has_bit-set : (bits bit other : ℕ) → bit < 64 → has_bit (bit_or bits (1 * 2 ^ bit % 2 ^ 64)) other ≡ ((other == bit) || has_bit bits other)
has_bit-set bits bit other low = ⊎_elim same apart (cases_Bool (other == bit))
  where
    same : (other == bit) ≡ true → has_bit (bit_or bits (1 * 2 ^ bit % 2 ^ 64)) other ≡ ((other == bit) || has_bit bits other)
    same t = rw (t, (Decides-eqb other bit).0 t) (ap (λ b. b == 1) (bit_at_set_same w64 bits bit low))

    apart : (other == bit) ≡ false → has_bit (bit_or bits (1 * 2 ^ bit % 2 ^ 64)) other ≡ ((other == bit) || has_bit bits other)
    apart f = rw f (ap (λ b. b == 1) (bit_at_set_other w64 bits bit low other (λ e. false≢true (sym f ∙ (Decides-eqb other bit).1 e))))

greater_is_one : (x y : ℕ) → x < 2 → y < 2 → (max x y == 1) ≡ ((y == 1) || (x == 1))
greater_is_one zero zero p q = refl
greater_is_one zero (suc zero) p q = refl
greater_is_one (suc zero) zero p q = refl
greater_is_one (suc zero) (suc zero) p q = refl
greater_is_one (suc (suc x)) y p q = absurd (omega arith)
greater_is_one x (suc (suc y)) p q = absurd (omega arith)

pub has_bit-or : (a b bit : ℕ) → has_bit (bit_or a b) bit ≡ (has_bit b bit || has_bit a bit)
has_bit-or a b bit = ap (λ n. n == 1) (bit_at_or a b bit) ∙ greater_is_one (bit_at a bit) (bit_at b bit) (bit_at-lt a bit) (bit_at-lt b bit)

pub has_bit-none : (bit : ℕ) → has_bit 0 bit ≡ false
has_bit-none bit = ap (λ n. n == 1) (bit_at-zero bit)
