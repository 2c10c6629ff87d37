-- Words and their numbers determine each other.
use Rattle.std.proofs.Common.{◌≡◌, ◌∙◌, ℕ, zero, suc, ◌+◌, ◌*◌, ◌/◌, ◌%◌, ◌^◌, ◌<◌, ◌≤◌, true, List, [], ◌∷◌, ◌++◌, length, eqb, arith, sym, ap, refl, subst, ⊎_elim, length-append}
use Rattle.std.proofs.Math.Nat.{pow-succ', pow-le-pow_right, add-mul-div_right, add-mul-mod_self_right, mod-eq_of_lt, mod-lt, div-lt_iff_lt-mul, div-div-eq-div-mul, mul-le-mul_right}
use Rattle.std.proofs.lemmas.Bool.{cond_both, eqb-true, or_cases, and_parts, cases_eq}
use Rattle.std.proofs.lemmas.Nat.{div-mul-add, div-add-mod', mod-mul-add, pow-add}
use Rattle.kmer_text.specs.Kmers.{digit_of, letter_of, number_of, word_of}
use Rattle.kmer_text.specs.Letters.{is_letter, are_letters}

-- ---- powers of four
pub four-suc : (k : ℕ) → 4 ^ suc k ≡ 4 * 4 ^ k
four-suc k = pow-succ' 4 k

pub four-pos : (k : ℕ) → 0 < 4 ^ k
four-pos zero = omega arith
four-pos (suc k) = omega (arith, four-suc k, four-pos k)

pub four-le : (j k : ℕ) → j ≤ k → 4 ^ j ≤ 4 ^ k
four-le j k h = pow-le-pow_right {n = 4} (omega arith) {i = j} {j = k} h

-- ---- the number of a word
pub digit_of-lt : (byte : ℕ) → digit_of byte < 4
digit_of-lt byte =
    cond_both (eqb byte 65) _ _ (λ d. d < 4) (λ _. omega arith) (λ _.
    cond_both (eqb byte 67) _ _ (λ d. d < 4) (λ _. omega arith) (λ _.
    cond_both (eqb byte 71) _ _ (λ d. d < 4) (λ _. omega arith) (λ _. omega arith)))

pub number_of-lt : (word : List ℕ) → number_of word < 4 ^ length word
number_of-lt [] = omega arith
number_of-lt (x ∷ word) =
    let F = 4 ^ length word in
    let most : digit_of x * F ≤ 3 * F = mul-le-mul_right F (omega (arith, digit_of-lt x)) in
    omega (arith, most, number_of-lt word, four-suc (length word))

-- one more letter behind a word
pub number_of-push : (word : List ℕ) (x : ℕ) → number_of (word ++ x ∷ []) ≡ number_of word * 4 + digit_of x
number_of-push [] x = omega arith
number_of-push (y ∷ word) x =
    let F = 4 ^ length word in
    let longer : 4 ^ length (word ++ x ∷ []) ≡ 4 * F = ap (λ n. 4 ^ n) (omega (arith, length-append word (x ∷ []))) ∙ four-suc (length word) in
    let front : digit_of y * 4 ^ length (word ++ x ∷ []) ≡ digit_of y * (4 * F) = ap (λ n. digit_of y * n) longer in
    omega (arith, front, number_of-push word x)

-- a word without its first letter
pub number_of-rest : (x : ℕ) (word : List ℕ) → number_of (x ∷ word) % 4 ^ length word ≡ number_of word
number_of-rest x word = mod-mul-add (digit_of x) (4 ^ length word) (number_of word) (number_of-lt word)

-- ---- the word of a number
pub length-word_of : (k n : ℕ) → length (word_of k n) ≡ k
length-word_of zero n = refl
length-word_of (suc k) n = ap suc (length-word_of k n)

-- more letters in front change none of the last k
pub word_of-front : (k n m : ℕ) → word_of k (n * 4 ^ k + m) ≡ word_of k m
word_of-front zero n m = refl
word_of-front (suc k) n m =
    let F = 4 ^ k in
    let x = n * 4 ^ suc k + m in
    let spread : n * (4 * F) + m ≡ m + n * 4 * F = omega arith in
    let same : x ≡ m + n * 4 * F = ap (λ q. n * q + m) (four-suc k) ∙ spread in
    let other : m + n * 4 * F ≡ n * 4 * F + m = omega arith in
    let first : x / F % 4 ≡ m / F % 4 =
    ap (λ y. y / F % 4) same ∙ (ap (λ y. y % 4) (add-mul-div_right m (n * 4) (four-pos k)) ∙ add-mul-mod_self_right (m / F) n 4) in
    ap (λ d. letter_of d ∷ word_of k x) first
    ∙ ap (λ w. letter_of (m / F % 4) ∷ w) (ap (word_of k) (same ∙ other) ∙ word_of-front k (n * 4) m)

-- the first j letters, and the k behind them
pub word_of-append : (j k n : ℕ) → word_of (j + k) n ≡ word_of j (n / 4 ^ k) ++ word_of k n
word_of-append zero k n = let none : zero + k ≡ k = omega arith in ap (λ m. word_of m n) none
word_of-append (suc j) k n =
    let more : suc j + k ≡ suc (j + k) = omega arith in
    let turned : j + k ≡ k + j = omega arith in
    let place : n / 4 ^ (j + k) ≡ n / 4 ^ k / 4 ^ j = ap (λ m. n / 4 ^ m) turned ∙ (ap (λ m. n / m) (pow-add 4 k j) ∙ sym (div-div-eq-div-mul n (4 ^ k) (4 ^ j))) in
    ap (λ m. word_of m n) more
    ∙ (ap (λ q. letter_of (q % 4) ∷ word_of (j + k) n) place ∙ ap (λ w. letter_of (n / 4 ^ k / 4 ^ j % 4) ∷ w) (word_of-append j k n))

-- the word of a number whose first digit is d
pub word_of-split : (k d m : ℕ) → d < 4 → m < 4 ^ k → word_of (suc k) (d * 4 ^ k + m) ≡ letter_of d ∷ word_of k m
word_of-split k d m small rest =
    let first : (d * 4 ^ k + m) / 4 ^ k % 4 ≡ d = ap (λ n. n % 4) (div-mul-add d (4 ^ k) m rest) ∙ mod-eq_of_lt small in
    ap (λ n. letter_of n ∷ word_of k (d * 4 ^ k + m)) first ∙ ap (λ w. letter_of d ∷ w) (word_of-front k d m)

letter_of-digit_of : (b : ℕ) → is_letter b ≡ true → letter_of (digit_of b) ≡ b
letter_of-digit_of b h =
    let at = λ (c : ℕ) (e : eqb b c ≡ true) (known : letter_of (digit_of c) ≡ c). subst (λ x. letter_of (digit_of x) ≡ x) (sym (eqb-true b c e)) known in
    ⊎_elim (λ p. ⊎_elim (λ q. ⊎_elim (λ r. at 65 r refl) (λ r. at 67 r refl) (or_cases _ _ q)) (λ q. at 71 q refl) (or_cases _ _ p)) (λ p. at 84 p refl) (or_cases _ _ h)

digit_of-letter_of : (d : ℕ) → d < 4 → digit_of (letter_of d) ≡ d
digit_of-letter_of d small =
    let at = λ (c : ℕ) (e : d ≡ c) (known : digit_of (letter_of c) ≡ c). subst (λ x. digit_of (letter_of x) ≡ x) (sym e) known in
    ⊎_elim (λ e. at 0 e refl) (λ a. ⊎_elim (λ e. at 1 e refl) (λ b. ⊎_elim (λ e. at 2 e refl) (λ c. at 3 (omega arith) refl) (cases_eq d 2)) (cases_eq d 1)) (cases_eq d 0)

pub word_of-number_of : (word : List ℕ) → are_letters word ≡ true → word_of (length word) (number_of word) ≡ word
word_of-number_of [] h = refl
word_of-number_of (x ∷ word) h =
    let both = and_parts (is_letter x) (are_letters word) h in
    word_of-split (length word) (digit_of x) (number_of word) (digit_of-lt x) (number_of-lt word)
    ∙ (ap (λ b. b ∷ word_of (length word) (number_of word)) (letter_of-digit_of x both.0) ∙ ap (λ w. x ∷ w) (word_of-number_of word both.1))

pub number_of-word_of : (k n : ℕ) → n < 4 ^ k → number_of (word_of k n) ≡ n
number_of-word_of zero n h = omega arith
number_of-word_of (suc k) n h =
    let F = 4 ^ k in
    let some : 0 < F = four-pos k in
    let d = n / F in
    let m = n % F in
    let rest : m < F = mod-lt n some in
    let whole : d * F + m ≡ n = div-add-mod' n F in
    let small : d < 4 = (div-lt_iff_lt-mul some).1 (omega (arith, h, four-suc k)) in
    ap (λ x. number_of (word_of (suc k) x)) (sym whole)
    ∙ (ap number_of (word_of-split k d m small rest)
    ∙ (ap (λ l. digit_of (letter_of d) * 4 ^ l + number_of (word_of k m)) (length-word_of k m)
    ∙ (ap (λ x. x * F + number_of (word_of k m)) (digit_of-letter_of d small) ∙ (ap (λ x. d * F + x) (number_of-word_of k m rest) ∙ whole))))
