-- What passes the test of eight words.
use Rattle.std.proofs.Common.{◌≡◌, ℕ, ◌-◌, ◌^◌, ◌<◌, List, Bool, true, false, ⊎_elim, sym, length, replicate, drop, zero, suc, refl, ◌∙◌, arith, get_or, length-drop}
use Rattle.std.specs.Prelude.{◌==◌, ◌↔◌, nat_lt}
use Rattle.std.specs.List.{All, list_all}
use Rattle.std.proofs.lemmas.Bool.{and_from, cases_Bool, false≢true}
use Rattle.std.proofs.lemmas.Bool.Decides.{Decides-eqb, Decides-ltb}
use Rattle.std.proofs.lemmas.List.{nil_from_length}
use Rattle.std.proofs.lemmas.List.Sums.{list_all-from_AllPass}
use Rattle.bcl_words.specs.Words.{IsWords, is_words}

zeros_pass : (m : ℕ) → list_all (λ x. x == 0) (replicate m 0) ≡ true
zeros_pass zero = refl
zeros_pass (suc m) = zeros_pass m

pub test_below : (xs : List ℕ) (m : ℕ) → All (λ x. x < m) xs → list_all (λ x. nat_lt x m) xs ≡ true
test_below xs m p = list_all-from_AllPass (λ x. nat_lt x m) xs (λ k d lt. (Decides-ltb (get_or xs k d) m).1 (p k d lt))

pub test_if_words : (n : ℕ) (w : List ℕ) → IsWords n w → is_words n w ≡ true
test_if_words n w h =
    and_from _ _ ((Decides-eqb (length w) 8).1 h.len)
    (and_from _ _ (test_below w (2 ^ 64) h.in_range) (rw h.zeros (zeros_pass (8 - n))))

-- of eight words in range the test asks whether the rest are zeros
pub test_of_rest : (n : ℕ) (w : List ℕ) → length w ≡ 8 → All (λ x. x < 2 ^ 64) w → is_words n w ≡ list_all (λ x. x == 0) (drop n w)
test_of_rest n w len fits = rw ((Decides-eqb (length w) 8).1 len, test_below w (2 ^ 64) fits) refl

pub eight_pass : (w : List ℕ) → length w ≡ 8 → All (λ x. x < 2 ^ 64) w → is_words 8 w ≡ true
eight_pass w len fits = test_if_words 8 w (record { len = len; in_range = fits; zeros = nil_from_length (drop 8 w) (omega (arith, length-drop 8 w)) })

-- a call that answers None where a test fails, and nowhere else, answers a value where it passes
pub passes_if_some : (test : Bool) → (true ≡ false) ↔ (test ≡ false) → test ≡ true
passes_if_some test h = ⊎_elim (λ t. t) (λ f. absurd (false≢true (sym (h.1 f)))) (cases_Bool test)

pub some_if_passes : (test : Bool) → test ≡ true → (true ≡ false) ↔ (test ≡ false)
some_if_passes test p = (λ e. absurd (false≢true (sym e)), λ e. sym p ∙ e)
