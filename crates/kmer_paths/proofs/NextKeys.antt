-- The key behind a line, by its number.
use Rattle.std.proofs.Common.{◌≡◌, ◌≢◌, ◌∙◌, ℕ, suc, ◌+◌, ◌-◌, ◌*◌, ◌%◌, ◌^◌, ◌<◌, ◌≤◌, eqb, true, false, List, [], ◌∷◌, length, take, get_or, Option, None, arith, sym, ap, refl, subst, ⊎_elim, length-take-le, length-append}
use Rattle.std.proofs.lemmas.Bool.{cond-true, cond-false, cases_Bool, and_parts, and_from, or_cases}
use Rattle.std.proofs.lemmas.List.Folds.{list_all-append}
use Rattle.kmer_text.specs.Kmers.{digit_of, number_of, word_of}
use Rattle.kmer_text.specs.Letters.{is_letter, are_letters}
use Rattle.kmer_text.specs.Nodes.{bad_node, code_of, is_extension, line_at}
use Rattle.kmer_text.proofs.Numbers.{digit_of-lt, number_of-lt, number_of-push, number_of-rest, word_of-number_of}
use Rattle.kmer_text.proofs.GoodNodes.{node-good, extensions-good}
use Rattle.kmer_paths.specs.Keys.{first_place}
use Rattle.kmer_paths.specs.Walks.{forward, next_key, next_place}

-- ---- the code of an extension
code-end : (b : ℕ) → eqb b 70 ≡ true → code_of b ≡ 4
code-end b e = cond-true (eqb b 70) 4 (digit_of b) e

code-letter : (b : ℕ) → eqb b 70 ≡ false → code_of b ≡ digit_of b
code-letter b e = cond-false (eqb b 70) 4 (digit_of b) e

pub end-from_code : (b : ℕ) → code_of b ≡ 4 → eqb b 70 ≡ true
end-from_code b e =
    ⊎_elim (λ (yes : eqb b 70 ≡ true). yes) (λ (no : eqb b 70 ≡ false). absurd (omega (arith, e, code-letter b no, digit_of-lt b))) (cases_Bool (eqb b 70))

pub letter-from_code : (b : ℕ) → code_of b ≢ 4 → eqb b 70 ≡ false
letter-from_code b ne =
    ⊎_elim (λ (yes : eqb b 70 ≡ true). absurd (ne (code-end b yes))) (λ (no : eqb b 70 ≡ false). no) (cases_Bool (eqb b 70))

extension-letter : (b : ℕ) → is_extension b ≡ true → eqb b 70 ≡ false → is_letter b ≡ true
extension-letter b h differs = ⊎_elim (λ (yes : is_letter b ≡ true). yes) (λ (end : eqb b 70 ≡ true). absurd (cc)) (or_cases (is_letter b) (eqb b 70) h)

-- ---- the next key
number-next : (j : ℕ) (line : List ℕ) → suc j ≤ length line → number_of (next_key (suc j) line) ≡ number_of (take (suc j) line) % 4 ^ j * 4 + digit_of (forward (suc j) line)
number-next j [] long = absurd (omega arith)
number-next j (x ∷ xs) long =
    let width : length (take j xs) ≡ j = length-take-le j xs (omega arith) in
    let rest : number_of (x ∷ take j xs) % 4 ^ j ≡ number_of (take j xs) = ap (λ n. number_of (x ∷ take j xs) % 4 ^ n) (sym width) ∙ number_of-rest x (take j xs) in
    number_of-push (take j xs) (forward (suc j) (x ∷ xs)) ∙ ap (λ n. n * 4 + digit_of (forward (suc j) (x ∷ xs))) (sym rest)

width-next : (j : ℕ) (line : List ℕ) → suc j ≤ length line → length (next_key (suc j) line) ≡ suc j
width-next j [] long = absurd (omega arith)
width-next j (x ∷ xs) long = omega (arith, length-append (take j xs) (forward (suc j) (x ∷ xs) ∷ []), length-take-le j xs (omega arith))

letters-next : (j : ℕ) (line : List ℕ) → are_letters (take (suc j) line) ≡ true → is_letter (forward (suc j) line) ≡ true → are_letters (next_key (suc j) line) ≡ true
letters-next j [] letters letter = and_from (is_letter (forward (suc j) [])) true letter refl
letters-next j (x ∷ xs) letters letter =
    let f = forward (suc j) (x ∷ xs) in
    list_all-append is_letter (take j xs) (f ∷ [])
    ∙ and_from (are_letters (take j xs)) (are_letters (f ∷ [])) (and_parts (is_letter x) (are_letters (take j xs)) letters).1 (and_from (is_letter f) true letter refl)

-- a map of the first lines, asked for the number of a word
pub first_of_word : (k key : ℕ) (word : List ℕ) (ls : List (List ℕ)) (found : ℕ → Option ℕ) → length word ≡ k → are_letters word ≡ true → key ≡ number_of word
    → ((q : ℕ) → q < 4 ^ k → found q ≡ first_place k ls (word_of k q)) → first_place k ls word ≡ found key
first_of_word k key word ls found width letters is firsts =
    let small : key < 4 ^ k = subst (λ n. key < 4 ^ n) width (subst (λ n. n < 4 ^ length word) (sym is) (number_of-lt word)) in
    let same : word_of k key ≡ word = ap (word_of k) is ∙ (ap (λ n. word_of n (number_of word)) (sym width) ∙ word_of-number_of word letters) in
    ap (first_place k ls) (sym same) ∙ sym (firsts key small)

-- the place behind a line that isn't empty, by the code of its forward extension
module _ (k i : ℕ) (ls : List (List ℕ)) where
  abbrev line : List ℕ
  line = line_at ls i

  pub next-none : code_of (forward k line) ≡ 4 → next_place k ls i ≡ None
  next-none e = cond-true (eqb (forward k line) 70) None (first_place k ls (next_key k line)) (end-from_code (forward k line) e)

  pub next-some : (key : ℕ) (found : ℕ → Option ℕ) → 1 ≤ k → bad_node k ls ≡ None → i < length ls → length line ≢ 0 → code_of (forward k line) ≢ 4
      → key ≡ number_of (take k line) % 4 ^ (k - 1) * 4 + code_of (forward k line)
      → ((q : ℕ) → q < 4 ^ k → found q ≡ first_place k ls (word_of k q)) → next_place k ls i ≡ found key
  next-some key found positive good h some ne is firsts =
      let node = node-good k i ls good h some in
      let f = forward k line in
      let letter_is = letter-from_code f ne in
      let back : ℕ = get_or line (k + 1) 0 in
      let letter = extension-letter f (and_parts (is_extension back) (is_extension f) (extensions-good k i ls good h some)).1 letter_is in
      let shown : (m : ℕ) → suc m ≡ k → first_place k ls (next_key k line) ≡ found key = λ m e.
      let P : ℕ → Type 0 = λ n. length line ≡ n + 3 → are_letters (take n line) ≡ true → is_letter (forward n line) ≡ true
      → (length (next_key n line) ≡ n) × (are_letters (next_key n line) ≡ true) × (number_of (next_key n line) ≡ number_of (take n line) % 4 ^ (n - 1) * 4 + digit_of (forward n line)) in
      let one : suc m - 1 ≡ m = omega arith in
      let facts : P k = subst P e (λ long letters last. (
        width-next m line (omega (arith, long)),
        letters-next m line letters last,
        number-next m line (omega (arith, long)) ∙ ap (λ n. number_of (take (suc m) line) % 4 ^ n * 4 + digit_of (forward (suc m) line)) (sym one),
      )) in
      let at = facts node.0 node.1 letter in
      first_of_word k key (next_key k line) ls found at.0 at.1 (is ∙ (ap (λ n. number_of (take k line) % 4 ^ (k - 1) * 4 + n) (code-letter f letter_is) ∙ sym at.2)) firsts in
      cond-false (eqb f 70) None (first_place k ls (next_key k line)) letter_is ∙ shown (k - 1) (omega arith)
