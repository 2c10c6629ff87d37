-- How often a word occurs, by its number.
use Rattle.std.proofs.Common.{◌≡◌, ◌∙◌, ◌≢◌, ℕ, zero, suc, ◌+◌, ◌^◌, ◌<◌, ◌≤◌, true, List, [], ◌∷◌, ◌++◌, length, map, take, cond, eqb, arith, sym, ap, refl, subst, ⊎_elim, length-take-le}
use Rattle.std.specs.List.{count_by, All}
use Rattle.std.specs.Str.{bytes_eq}
use Rattle.std.proofs.lemmas.Bool.{eq-eqb, ne_eqb, and_parts, and_from, cases_eq, cases_lt, false_from_ne_true}
use Rattle.std.proofs.lemmas.List.Sums.{sum_by-cons}
use Rattle.std.proofs.lemmas.List.Elements.{All-head, All-tail}
use Rattle.std.proofs.lemmas.Slice.Eq.{bytes_eq-Decides}
use Rattle.kmer_text.specs.Kmers.{number_of, word_of}
use Rattle.kmer_text.specs.Letters.{is_letter, are_letters}
use Rattle.kmer_text.specs.Windows.{windows, all_windows, occurs}
use Rattle.kmer_rows.specs.Counts.{times}
use Rattle.kmer_text.proofs.Numbers.{number_of-lt, word_of-number_of, number_of-word_of}
use Rattle.kmer_text.proofs.Runs.{windows_first, windows_none}

-- words of k letters
abbrev AreKmers : ℕ → List (List ℕ) → Type 0
AreKmers k [] = Unit {0}
AreKmers k (w ∷ ws) = (length w ≡ k) × (are_letters w ≡ true) × AreKmers k ws

AreKmers-append : (k : ℕ) (xs ys : List (List ℕ)) → AreKmers k xs → AreKmers k ys → AreKmers k (xs ++ ys)
AreKmers-append k [] ys p q = q
AreKmers-append k (x ∷ xs) ys p q = (p.0, p.1, AreKmers-append k xs ys p.2 q)

are_letters-take : (n : ℕ) (xs : List ℕ) → are_letters xs ≡ true → are_letters (take n xs) ≡ true
are_letters-take zero xs h = refl
are_letters-take (suc n) [] h = refl
are_letters-take (suc n) (x ∷ xs) h =
    let both = and_parts (is_letter x) (are_letters xs) h in
    and_from (is_letter x) (are_letters (take n xs)) both.0 (are_letters-take n xs both.1)

windows_are : (k : ℕ) (line : List ℕ) → 0 < k → are_letters line ≡ true → AreKmers k (windows k line)
windows_are k [] some h = subst (AreKmers k) (sym (windows_none k [] some)) tt
windows_are k (b ∷ bs) some h =
    let rest = windows_are k bs some (and_parts (is_letter b) (are_letters bs) h).1 in
    ⊎_elim
    (λ (short : length (b ∷ bs) < k). subst (AreKmers k) (sym (windows_none k (b ∷ bs) short)) tt)
    (λ (fits : k ≤ length (b ∷ bs)). subst (AreKmers k) (sym (windows_first k b bs fits)) (length-take-le k (b ∷ bs) fits, are_letters-take k (b ∷ bs) h, rest))
    (cases_lt (length (b ∷ bs)) k)

all_windows_are : (k : ℕ) (lines : List (List ℕ)) → 0 < k → All (λ l. are_letters l ≡ true) lines → AreKmers k (all_windows k lines)
all_windows_are k [] some h = tt
all_windows_are k (l ∷ ls) some h =
    AreKmers-append k (windows k l) (all_windows k ls) (windows_are k l some (All-head (λ l. are_letters l ≡ true) l ls h)) (all_windows_are k ls some (All-tail (λ l. are_letters l ≡ true) l ls h))

-- one window is the word of a number where it has that number
same_test : (k n : ℕ) (w : List ℕ) → n < 4 ^ k → length w ≡ k → are_letters w ≡ true → bytes_eq (word_of k n) w ≡ eqb (number_of w) n
same_test k n w small len letters =
    ⊎_elim
    (λ (e : number_of w ≡ n).
    let word : word_of k n ≡ w = ap (word_of k) (sym e) ∙ (ap (λ l. word_of l (number_of w)) (sym len) ∙ word_of-number_of w letters) in
    (bytes_eq-Decides (word_of k n) w).1 word ∙ sym (eq-eqb (number_of w) n e))
    (λ (ne : number_of w ≢ n).
    false_from_ne_true _ (λ h. ne (ap number_of (sym ((bytes_eq-Decides (word_of k n) w).0 h)) ∙ number_of-word_of k n small)) ∙ sym (ne_eqb (number_of w) n ne))
    (cases_eq (number_of w) n)

count_same : (k n : ℕ) (ws : List (List ℕ)) → n < 4 ^ k → AreKmers k ws → count_by (bytes_eq (word_of k n)) ws ≡ times n (map number_of ws)
count_same k n [] small are = refl
count_same k n (w ∷ ws) small are =
    sum_by-cons (λ v. cond (bytes_eq (word_of k n) v) 1 0) w ws
    ∙ (ap (λ b. cond b 1 0 + count_by (bytes_eq (word_of k n)) ws) (same_test k n w small are.0 are.1)
    ∙ (ap (λ m. cond (eqb (number_of w) n) 1 0 + m) (count_same k n ws small are.2)
    ∙ sym (sum_by-cons (λ v. cond (eqb v n) 1 0) (number_of w) (map number_of ws))))

pub occurs_is : (k n : ℕ) (lines : List (List ℕ)) → 0 < k → n < 4 ^ k → All (λ l. are_letters l ≡ true) lines → occurs k lines (word_of k n) ≡ times n (map number_of (all_windows k lines))
occurs_is k n lines some small letters = count_same k n (all_windows k lines) small (all_windows_are k lines some letters)

none_past : (k n : ℕ) (ws : List (List ℕ)) → 4 ^ k ≤ n → AreKmers k ws → times n (map number_of ws) ≡ 0
none_past k n [] large are = refl
none_past k n (w ∷ ws) large are =
    let bound : number_of w < 4 ^ k = subst (λ l. number_of w < 4 ^ l) are.0 (number_of-lt w) in
    sum_by-cons (λ v. cond (eqb v n) 1 0) (number_of w) (map number_of ws)
    ∙ (ap (λ b. cond b 1 0 + times n (map number_of ws)) (ne_eqb (number_of w) n (λ e. omega arith)) ∙ ap (λ m. 0 + m) (none_past k n ws large are.2))

pub times_past : (k n : ℕ) (lines : List (List ℕ)) → 0 < k → 4 ^ k ≤ n → All (λ l. are_letters l ≡ true) lines → times n (map number_of (all_windows k lines)) ≡ 0
times_past k n lines some large letters = none_past k n (all_windows k lines) large (all_windows_are k lines some letters)
