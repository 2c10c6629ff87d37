-- The rows of the counts are the text of the count.
use Rattle.std.proofs.Common.{◌≡◌, ◌∙◌, ℕ, zero, suc, ◌+◌, ◌^◌, ◌<◌, ◌≤◌, true, List, ◌∷◌, ◌++◌, map, ltb, leb, arith, sym, ap, refl, ⊎_elim, subst}
use Rattle.std.specs.List.{range_with_len, filter, flat_map, All, AllByRecursion}
use Rattle.std.proofs.lemmas.Grind.{flat_map-append}
use Rattle.std.proofs.lemmas.List.Elements.{All-from_recursion, filter-append}
use Rattle.std.proofs.lemmas.Bool.{cond-true, cond-false, cases_lt, le-leb, lt-leb, lt-ltb, le-ltb}
use Rattle.kmer_text.specs.Kmers.{number_of, word_of}
use Rattle.kmer_text.specs.Letters.{are_letters}
use Rattle.kmer_text.specs.Windows.{occurs, all_windows}
use Rattle.kmer_text.proofs.AllWords.{all_words_are}
use Rattle.kmer_rows.specs.Count.{row, count_text}
use Rattle.kmer_rows.specs.Counts.{AreCounts, rows, times}
use Rattle.kmer_rows.proofs.Occurs.{occurs_is, times_past}
use Rattle.kmer_rows.proofs.Entries.{entries_in, counted_in, keys_in}

abbrev text_from : ℕ → ℕ → List (List ℕ) → List (List ℕ) → List ℕ
text_from k least lines words = flat_map (λ word. row word (occurs k lines word)) (filter (λ word. leb least (occurs k lines word)) words)

module _ (k least : ℕ) where
  -- one entry, and those behind it
  pub rows_with : (q n : ℕ) (es : List (ℕ × ℕ)) → least ≤ n → rows k least ((q, n) ∷ es) ≡ row (word_of k q) n ++ rows k least es
  rows_with q n es h = ap (flat_map (λ entry. row (word_of k entry.0) entry.1)) (cond-true (leb least n) ((q, n) ∷ filter (λ entry. leb least entry.1) es) (filter (λ entry. leb least entry.1) es) (le-leb least n h))

  pub rows_without : (q n : ℕ) (es : List (ℕ × ℕ)) → n < least → rows k least ((q, n) ∷ es) ≡ rows k least es
  rows_without q n es h = ap (flat_map (λ entry. row (word_of k entry.0) entry.1)) (cond-false (leb least n) ((q, n) ∷ filter (λ entry. leb least entry.1) es) (filter (λ entry. leb least entry.1) es) (lt-leb least n h))

  module _ (lines : List (List ℕ)) where
    text_with : (word : List ℕ) (words : List (List ℕ)) → least ≤ occurs k lines word
        → text_from k least lines (word ∷ words) ≡ row word (occurs k lines word) ++ text_from k least lines words
    text_with word words h = ap (flat_map (λ w. row w (occurs k lines w))) (cond-true (leb least (occurs k lines word)) (word ∷ filter (λ w. leb least (occurs k lines w)) words) (filter (λ w. leb least (occurs k lines w)) words) (le-leb least (occurs k lines word) h))

    text_without : (word : List ℕ) (words : List (List ℕ)) → occurs k lines word < least → text_from k least lines (word ∷ words) ≡ text_from k least lines words
    text_without word words h = ap (flat_map (λ w. row w (occurs k lines w))) (cond-false (leb least (occurs k lines word)) (word ∷ filter (λ w. leb least (occurs k lines w)) words) (filter (λ w. leb least (occurs k lines w)) words) (lt-leb least (occurs k lines word) h))

    -- the rows of the words of a range of numbers
    rows_in : (f : ℕ → ℕ) (n a : ℕ) → 1 ≤ least → ((q : ℕ) → q < a + n → occurs k lines (word_of k q) ≡ f q)
        → text_from k least lines (map (word_of k) (range_with_len a n)) ≡ rows k least (counted_in f a n)
    rows_in f zero a some h = refl
    rows_in f (suc n) a some h =
        let word = word_of k a in
        let count : occurs k lines word ≡ f a = h a (omega arith) in
        let words = map (word_of k) (range_with_len (a + 1) n) in
        let numbers = filter (λ q. ltb 0 (f q)) (range_with_len (a + 1) n) in
        let later : text_from k least lines words ≡ rows k least (counted_in f (a + 1) n) = rows_in f n (a + 1) some (λ q l. h q (omega arith)) in
        let with_a : 0 < f a → rows k least (counted_in f a (suc n)) ≡ rows k least ((a, f a) ∷ counted_in f (a + 1) n) =
        λ l. ap (λ qs. rows k least (map (λ q. (q, f q)) qs)) (cond-true (ltb 0 (f a)) (a ∷ numbers) numbers (lt-ltb 0 (f a) l)) in
        let without_a : f a ≤ 0 → rows k least (counted_in f a (suc n)) ≡ rows k least (counted_in f (a + 1) n) =
        λ l. ap (λ qs. rows k least (map (λ q. (q, f q)) qs)) (cond-false (ltb 0 (f a)) (a ∷ numbers) numbers (le-ltb 0 (f a) l)) in
        ⊎_elim
        (λ (few : f a < least).
        text_without word words (omega (arith, count))
        ∙ (later ∙ ⊎_elim
        (λ (l : 0 < f a). sym (with_a l ∙ rows_without a (f a) (counted_in f (a + 1) n) few))
        (λ (l : f a ≤ 0). sym (without_a l))
        (cases_lt 0 (f a))))
        (λ (enough : least ≤ f a).
        text_with word words (omega (arith, count))
        ∙ (ap (λ m. row word m ++ text_from k least lines words) count
        ∙ (ap (λ t. row word (f a) ++ t) later
        ∙ sym (with_a (omega arith) ∙ rows_with a (f a) (counted_in f (a + 1) n) enough))))
        (cases_lt (f a) least)

-- what counts the windows has the entries of their numbers
pub entries_are : (k : ℕ) (lines : List (List ℕ)) (entries : List (ℕ × ℕ)) → 0 < k → All (λ l. are_letters l ≡ true) lines
    → AreCounts k lines entries → entries ≡ counted_in (λ q. times q (map number_of (all_windows k lines))) 0 (4 ^ k)
entries_are k lines entries some letters counts =
    entries_in (λ q. times q (map number_of (all_windows k lines))) (4 ^ k) 0 entries counts.rise (λ q l. absurd (omega arith)) (λ q h. counts.each q) (λ q h. times_past k q lines some (omega arith) letters)

-- their rows are the text
pub text_is : (k least : ℕ) (lines : List (List ℕ)) (entries : List (ℕ × ℕ)) → 0 < k → 1 ≤ least → All (λ l. are_letters l ≡ true) lines
    → AreCounts k lines entries → rows k least entries ≡ count_text k least lines
unfolding count_text
text_is k least lines entries some positive letters counts =
    ap (rows k least) (entries_are k lines entries some letters counts)
    ∙ sym (ap (text_from k least lines) (all_words_are k)
    ∙ rows_in k least lines (λ q. times q (map number_of (all_windows k lines))) (4 ^ k) 0 positive (λ q l. occurs_is k q lines some (omega arith) letters))

-- the numbers of all entries are those of words of k letters
pub in_range : (k : ℕ) (lines : List (List ℕ)) (entries : List (ℕ × ℕ)) → 0 < k → All (λ l. are_letters l ≡ true) lines
    → AreCounts k lines entries → All (λ entry. entry.0 < 4 ^ k) entries
in_range k lines entries some letters counts =
    let f : ℕ → ℕ = λ q. times q (map number_of (all_windows k lines)) in
    let P : ℕ × ℕ → Type 0 = λ entry. entry.0 < 4 ^ k in
    let from_zero : 0 + 4 ^ k ≡ 4 ^ k = omega arith in
    let below = subst (λ n. AllByRecursion (λ entry. entry.0 < n) (counted_in f 0 (4 ^ k))) from_zero (keys_in f 0 (4 ^ k)) in
    subst (All P) (sym (entries_are k lines entries some letters counts)) (All-from_recursion P (counted_in f 0 (4 ^ k)) below)

-- rows of one list and then of another
pub rows-append : (k least : ℕ) (es fs : List (ℕ × ℕ)) → rows k least (es ++ fs) ≡ rows k least es ++ rows k least fs
rows-append k least es fs =
    ap (flat_map (λ entry. row (word_of k entry.0) entry.1)) (filter-append (λ entry. leb least entry.1) es fs)
    ∙ flat_map-append (λ entry. row (word_of k entry.0) entry.1) (filter (λ entry. leb least entry.1) es) (filter (λ entry. leb least entry.1) fs)
