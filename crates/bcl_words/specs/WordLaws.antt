-- What the test of eight words tells.
-- The laws of `Object` cite it.
use Rattle.std.proofs.Common.{◌≡◌, ℕ, ◌-◌, ◌^◌, ◌<◌, List, [], ◌∷◌, true, length, replicate, drop, ap, ap₂, refl, ◌∙◌, get_or, length-drop}
use Rattle.std.specs.Prelude.{◌==◌, nat_lt}
use Rattle.std.specs.List.{All, list_all}
use Rattle.std.proofs.lemmas.Bool.{and_parts}
use Rattle.std.proofs.lemmas.Bool.Decides.{Decides-eqb, Decides-ltb}
use Rattle.std.proofs.lemmas.List.Sums.{AllPass-from_list_all}
use Rattle.bcl_words.specs.Words.{IsWords, is_words}

pub zeros_are : (xs : List ℕ) → list_all (λ x. x == 0) xs ≡ true → xs ≡ replicate (length xs) 0
zeros_are [] p = refl
zeros_are (x ∷ xs) p =
    let h = and_parts (x == 0) (list_all (λ y. y == 0) xs) p in
    ap₂ (λ (a : ℕ) (l : List ℕ). a ∷ l) ((Decides-eqb x 0).0 h.0) (zeros_are xs h.1)

pub all_below : (xs : List ℕ) (m : ℕ) → list_all (λ x. nat_lt x m) xs ≡ true → All (λ x. x < m) xs
all_below xs m p k d lt = (Decides-ltb (get_or xs k d) m).0 (AllPass-from_list_all (λ x. nat_lt x m) xs p k d lt)

-- what the test tells
pub words_if_test : (n : ℕ) (w : List ℕ) → is_words n w ≡ true → IsWords n w
words_if_test n w p =
    let h = and_parts (length w == 8) _ p in
    let i = and_parts (list_all (λ x. nat_lt x (2 ^ 64)) w) (list_all (λ x. x == 0) (drop n w)) h.1 in
    let len : length w ≡ 8 = (Decides-eqb (length w) 8).0 h.0 in
    record {
      len = len;
      in_range = all_below w (2 ^ 64) i.0;
      zeros = zeros_are (drop n w) i.1 ∙ ap (λ k. replicate k 0) (length-drop n w ∙ ap (λ k. k - n) len);
    }
