-- The list of all words is that of the numbers below 4 ^ k, so it rises and leaves none out.
use Rattle.std.proofs.Common.{◌≡◌, ◌∙◌, ℕ, zero, suc, ◌+◌, ◌*◌, ◌/◌, ◌%◌, ◌^◌, ◌<◌, ◌≤◌, true, List, [], ◌∷◌, ◌++◌, length, map, get_or, eqb, arith, sym, ap, refl, ⊎_elim}
use Rattle.std.specs.List.{All, Contains, range_with_len}
use Rattle.std.specs.List.Sorted.{IsStrictlySortedBy}
use Rattle.std.specs.Cmp.Lexicographic.{slice_cmp}
use Rattle.std.specs.Ordering.{nat_cmp, ordering_then}
use Rattle.std.specs.declared.cmp.Ordering.TheVariants.{Less}
use Rattle.std.specs.Cmp.{tied_itself, nat_cmp_is}
use Rattle.std.proofs.Math.Nat.{mod-lt, div-lt_iff_lt-mul, mul-le-mul_right}
use Rattle.std.proofs.lemmas.Bool.{and_from, cond_both, cases_order}
use Rattle.std.proofs.lemmas.Bool.Decides.{nat_tests}
use Rattle.std.proofs.lemmas.Cmp.{nat_cmp_total, nat_list_cmp_total}
use Rattle.std.proofs.lemmas.List.{map-append}
use Rattle.std.proofs.lemmas.List.FromFn.{get_or-map-range_with_len, length-map-range_with_len}
use Rattle.std.proofs.lemmas.Map.Keys.{sorted_from_all_adjacent}
use Rattle.std.proofs.lemmas.Nat.{div-add-mod'}
use Rattle.kmer_text.specs.Kmers.{letter_of, number_of, word_of, all_words}
use Rattle.kmer_text.specs.Letters.{is_letter, are_letters}
use Rattle.kmer_text.proofs.Ranges.{map_range, range-append}
use Rattle.kmer_text.proofs.Numbers.{four-suc, four-pos, word_of-split, length-word_of, word_of-number_of, number_of-lt}

-- ---- the list, block by block
map-map : {X Y Z : Type 0} (f : Y → Z) (g : X → Y) (xs : List X) → map f (map g xs) ≡ map (λ x. f (g x)) xs
map-map f g [] = refl
map-map f g (x ∷ xs) = ap (λ ys. f (g x) ∷ ys) (map-map f g xs)

-- the words that begin with one letter
block : (k d : ℕ) (ws : List (List ℕ)) → d < 4 → ws ≡ map (word_of k) (range_with_len 0 (4 ^ k))
    → map (λ w. letter_of d ∷ w) ws ≡ map (word_of (suc k)) (range_with_len (d * 4 ^ k) (4 ^ k))
block k d ws small e =
    ap (map (λ w. letter_of d ∷ w)) e ∙ (map-map (λ w. letter_of d ∷ w) (word_of k) (range_with_len 0 (4 ^ k))
    ∙ sym (map_range (word_of (suc k)) (λ m. letter_of d ∷ word_of k m) (d * 4 ^ k) 0 (4 ^ k) (λ i l. word_of-split k d i small l ∙ ap (λ m. letter_of d ∷ word_of k m) (omega arith))))

-- the block at a place, and those behind it
blocks : (g : ℕ → List ℕ) (F i n : ℕ) → map g (range_with_len (i * F) ((n + 1) * F)) ≡ map g (range_with_len (i * F) F) ++ map g (range_with_len ((i + 1) * F) (n * F))
blocks g F i n =
    let long : (n + 1) * F ≡ F + n * F = omega arith in
    let next : i * F + F ≡ (i + 1) * F = omega arith in
    ap (λ m. map g (range_with_len (i * F) m)) long
    ∙ (ap (map g) (range-append (i * F) F (n * F))
    ∙ (map-append g (range_with_len (i * F) F) (range_with_len (i * F + F) (n * F))
    ∙ ap (λ b. map g (range_with_len (i * F) F) ++ map g (range_with_len b (n * F))) next))

-- all words are those of the numbers, in order
pub all_words_are : (k : ℕ) → all_words k ≡ map (word_of k) (range_with_len 0 (4 ^ k))
all_words_are zero = refl
all_words_are (suc k) =
    let F = 4 ^ k in
    let ws = all_words k in
    let g = word_of (suc k) in
    let e = all_words_are k in
    let front = λ (i : ℕ). map g (range_with_len (i * F) F) in
    let none : 0 * F ≡ 0 = omega arith in
    let at : ℕ → List (List ℕ) = λ i. map (λ w. letter_of i ∷ w) ws in
    let left : all_words (suc k) ≡ front 0 ++ (front 1 ++ (front 2 ++ (front 3 ++ []))) =
    ap (λ xs. xs ++ (at 1 ++ (at 2 ++ (at 3 ++ [])))) (block k 0 ws (omega arith) e)
    ∙ (ap (λ xs. front 0 ++ (xs ++ (at 2 ++ (at 3 ++ [])))) (block k 1 ws (omega arith) e)
    ∙ (ap (λ xs. front 0 ++ (front 1 ++ (xs ++ (at 3 ++ [])))) (block k 2 ws (omega arith) e)
    ∙ ap (λ xs. front 0 ++ (front 1 ++ (front 2 ++ (xs ++ [])))) (block k 3 ws (omega arith) e))) in
    let right : map g (range_with_len (0 * F) (4 * F)) ≡ front 0 ++ (front 1 ++ (front 2 ++ (front 3 ++ []))) =
    blocks g F 0 3
    ∙ (ap (λ xs. front 0 ++ xs) (blocks g F 1 2)
    ∙ (ap (λ xs. front 0 ++ (front 1 ++ xs)) (blocks g F 2 1)
    ∙ (ap (λ xs. front 0 ++ (front 1 ++ (front 2 ++ xs))) (blocks g F 3 0)
    ∙ ap (λ n. front 0 ++ (front 1 ++ (front 2 ++ (front 3 ++ map g (range_with_len (4 * F) n))))) none))) in
    left ∙ (sym right ∙ (ap (λ a. map g (range_with_len a (4 * F))) none ∙ ap (λ n. map g (range_with_len 0 n)) (sym (four-suc k))))

-- ---- its order
length-all_words : (k : ℕ) → length (all_words k) ≡ 4 ^ k
length-all_words k = ap length (all_words_are k) ∙ length-map-range_with_len (word_of k) 0 (4 ^ k)

word_at : (k i : ℕ) (d : List ℕ) → i < 4 ^ k → get_or (all_words k) i d ≡ word_of k i
word_at k i d h = ap (λ ws. get_or ws i d) (all_words_are k) ∙ get_or-map-range_with_len (word_of k) 0 (4 ^ k) i i d h (omega arith)

-- the first letter of a word, and the others
parted : (k n : ℕ) → n < 4 ^ suc k → word_of (suc k) n ≡ letter_of (n / 4 ^ k) ∷ word_of k (n % 4 ^ k)
parted k n h =
    let F = 4 ^ k in
    let some : 0 < F = four-pos k in
    let small : n / F < 4 = (div-lt_iff_lt-mul some).1 (omega (arith, h, four-suc k)) in
    ap (word_of (suc k)) (sym (div-add-mod' n F)) ∙ word_of-split k (n / F) (n % F) small (mod-lt n some)

letters_rise : (d e : ℕ) → d < e → e < 4 → letter_of d < letter_of e
letters_rise d e l h = grind (arith, nat_tests)

-- larger numbers have later words
words_rise : (k m n : ℕ) → m < n → n < 4 ^ k → slice_cmp nat_cmp (word_of k m) (word_of k n) ≡ Less
words_rise zero m n l h = absurd (omega arith)
words_rise (suc k) m n l h =
    let F = 4 ^ k in
    let some : 0 < F = four-pos k in
    let whole_m : m / F * F + m % F ≡ m = div-add-mod' m F in
    let whole_n : n / F * F + n % F ≡ n = div-add-mod' n F in
    let rest_n : n % F < F = mod-lt n some in
    let small : n / F < 4 = (div-lt_iff_lt-mul some).1 (omega (arith, h, four-suc k)) in
    let rest = slice_cmp nat_cmp (word_of k (m % F)) (word_of k (n % F)) in
    let later : m % F < n % F → rest ≡ Less = λ b. words_rise k (m % F) (n % F) b rest_n in
    ap (λ w. slice_cmp nat_cmp w (word_of (suc k) n)) (parted k m (omega arith))
    ∙ (ap (slice_cmp nat_cmp (letter_of (m / F) ∷ word_of k (m % F))) (parted k n h)
    ∙ ⊎_elim
    (λ (same : m / F ≡ n / F).
    ap (λ d. ordering_then (nat_cmp (letter_of d) (letter_of (n / F))) rest) same
    ∙ (ap (λ o. ordering_then o rest) (tied_itself nat_cmp_total (letter_of (n / F))) ∙ later (omega (arith, ap (λ d. d * F) same))))
    (⊎_elim
    (λ (below : m / F < n / F). ap (λ o. ordering_then o rest) (sym (nat_cmp_is (letter_of (m / F)) (letter_of (n / F)) Less (letters_rise (m / F) (n / F) below small))))
    (λ (above : n / F < m / F).
    let far : (n / F + 1) * F ≤ m / F * F = mul-le-mul_right F (omega arith) in
    absurd (omega (arith, far, whole_m, whole_n, rest_n))))
    (cases_order (m / F) (n / F)))

pub letters_of_word : (k n : ℕ) → are_letters (word_of k n) ≡ true
letters_of_word zero n = refl
letters_of_word (suc k) n =
    let d = n / 4 ^ k % 4 in
    and_from (is_letter (letter_of d)) (are_letters (word_of k n))
    (cond_both (eqb d 0) _ _ (λ b. is_letter b ≡ true) (λ _. refl) (λ _.
    cond_both (eqb d 1) _ _ (λ b. is_letter b ≡ true) (λ _. refl) (λ _.
    cond_both (eqb d 2) _ _ (λ b. is_letter b ≡ true) (λ _. refl) (λ _. refl))))
    (letters_of_word k n)

pub in_order : (k : ℕ) → IsStrictlySortedBy (slice_cmp nat_cmp) (all_words k)
in_order k = sorted_from_all_adjacent nat_list_cmp_total (all_words k) [] (λ i h.
    let fits : i + 1 < 4 ^ k = omega (arith, length-all_words k) in
    ap (λ w. slice_cmp nat_cmp w (get_or (all_words k) (i + 1) [])) (word_at k i [] (omega arith))
    ∙ (ap (slice_cmp nat_cmp (word_of k i)) (word_at k (i + 1) [] fits) ∙ words_rise k i (i + 1) (omega arith) fits))

pub only_words : (k : ℕ) → All (λ word. (length word ≡ k) × (are_letters word ≡ true)) (all_words k)
only_words k i d h =
    let word = word_at k i d (omega (arith, length-all_words k)) in
    (ap length word ∙ length-word_of k i, ap are_letters word ∙ letters_of_word k i)

pub every_word : (word : List ℕ) → are_letters word ≡ true → Contains (all_words (length word)) word
every_word word letters =
    let small = number_of-lt word in
    (number_of word, omega (arith, length-all_words (length word), small), word_at (length word) (number_of word) word small ∙ word_of-number_of word letters)
