-- The words of bytes, and bytes that are read from words.
use Rattle.std.specs.Prelude.{◌≡◌, ℕ, zero, suc, ◌-◌, ◌*◌, ◌^◌, ◌<◌, ◌≤◌, ◌%◌, ◌/◌, List, [], ◌∷◌, ◌++◌, true, nat_lt, length, replicate, drop, take}
use Rattle.std.specs.List.{All, list_all}
use Rattle.std.specs.Int.{from_le_bytes, to_le_bytes, w64}
use Rattle.std.proofs.Common.{ap₂, sym, refl, subst, ◌∙◌, arith, take-append-drop, length-append}
use Rattle.std.proofs.lemmas.Bool.{and_from}
use Rattle.std.proofs.lemmas.Bool.Decides.{Decides-eqb, Decides-ltb}
use Rattle.std.proofs.lemmas.List.{length-take-le, length-replicate, drop_at}
use Rattle.std.proofs.lemmas.List.Elements.{All-append, All-take, All-replicate}
use Rattle.std.proofs.lemmas.Nat.{from_le_bytes-to_le_bytes_8}
use Rattle.bcl_words.specs.Words.{is_words}
use Rattle.bcl_words.specs.Bytes.{are_bytes, byte_words, padded_words, bytes_of}
use Rattle.bcl_words.specs.WordLaws.{words_if_test, all_below}
use Rattle.bcl_words.specs.ByteLaws.{AreBytes, front_bytes, rest_bytes, at_each, length-byte_words, padded_when}
use Rattle.bcl_words.proofs.WordsPass.{test_if_words, test_below}

pub test_if_bytes : (n : ℕ) (bytes : List ℕ) → AreBytes n bytes → are_bytes n bytes ≡ true
test_if_bytes n bytes h = and_from _ _ ((Decides-eqb (length bytes) n).1 h.len) (test_below bytes 256 h.in_range)

-- ---- the words of bytes

word_range : (bytes : List ℕ) → AreBytes 8 bytes → from_le_bytes w64 bytes < 2 ^ 64
word_range bytes h =
    let f = at_each 8 bytes h in
    omega (arith, f 0, f 1, f 2, f 3, f 4, f 5, f 6, f 7)

words_range : (n : ℕ) (bytes : List ℕ) → AreBytes (8 * n) bytes → All (λ x. x < 2 ^ 64) (byte_words n bytes)
unfolding byte_words
words_range zero bytes h i d lt = absurd (omega arith)
words_range (suc n) bytes h zero d lt = word_range (take 8 bytes) (front_bytes n bytes h)
words_range (suc n) bytes h (suc i) d lt = words_range n (drop 8 bytes) (rest_bytes n bytes h) i d (omega arith)

-- the words of bytes pass
pub bytes_pass : (n : ℕ) (bytes : List ℕ) → n ≤ 8 → AreBytes (8 * n) bytes → is_words n (padded_words n bytes) ≡ true
bytes_pass n bytes room h =
    let zeros : List ℕ = replicate (8 - n) 0 in
    let words : List ℕ = byte_words n bytes in
    subst (λ w. is_words n w ≡ true) (sym (padded_when n bytes (test_if_bytes (8 * n) bytes h)))
    (test_if_words n (words ++ zeros) (record {
      len = omega (arith, length-append words zeros, length-byte_words n bytes, length-replicate {A = ℕ} (8 - n) 0);
      in_range = All-append (λ x. x < 2 ^ 64) words zeros (words_range n bytes h) (All-replicate (λ x. x < 2 ^ 64) (8 - n) 0 (omega arith));
      zeros = drop_at words zeros n (length-byte_words n bytes);
    }))

-- ---- the bytes of words

small : (n : ℕ) → nat_lt (n % 256) 256 ≡ true
small n = (Decides-ltb (n % 256) 256).1 (omega arith)

each_small : (n : ℕ) → list_all (λ x. nat_lt x 256) (to_le_bytes w64 n) ≡ true
each_small n =
    rw (small n, small (n / 256), small (n / 256 ^ 2), small (n / 256 ^ 3), small (n / 256 ^ 4), small (n / 256 ^ 5), small (n / 256 ^ 6), small (n / 256 ^ 7)) refl

-- the bytes of so many words
pub bytes_of_words : (words : List ℕ) → AreBytes (8 * length words) (bytes_of words)
bytes_of_words [] = record { len = refl; in_range = λ i d lt. absurd (omega arith) }
bytes_of_words (x ∷ words) =
    let h = bytes_of_words words in
    record {
      len = omega (arith, h.len);
      in_range = All-append (λ byte. byte < 256) (to_le_bytes w64 x) (bytes_of words) (all_below (to_le_bytes w64 x) 256 (each_small x)) h.in_range;
    }

words_back : (words : List ℕ) → All (λ x. x < 2 ^ 64) words → byte_words (length words) (bytes_of words) ≡ words
unfolding byte_words
words_back [] h = refl
words_back (x ∷ words) h =
    ap₂ (λ (a : ℕ) (l : List ℕ). a ∷ l) (from_le_bytes-to_le_bytes_8 x (h 0 0 (omega arith)))
    (words_back words (λ i d lt. h (suc i) d (omega arith)))

-- the bytes of words that pass have these words
pub bytes_read : (n : ℕ) (w : List ℕ) → n ≤ 8 → is_words n w ≡ true → padded_words n (bytes_of (take n w)) ≡ w
bytes_read n w room p =
    let h = words_if_test n w p in
    let len : length (take n w) ≡ n = length-take-le n w (omega (arith, h.len)) in
    let bytes : AreBytes (8 * n) (bytes_of (take n w)) = subst (λ k. AreBytes (8 * k) (bytes_of (take n w))) len (bytes_of_words (take n w)) in
    let words : byte_words n (bytes_of (take n w)) ≡ take n w =
    subst (λ k. byte_words k (bytes_of (take n w)) ≡ take n w) len (words_back (take n w) (All-take (λ x. x < 2 ^ 64) n w h.in_range)) in
    padded_when n (bytes_of (take n w)) (test_if_bytes (8 * n) (bytes_of (take n w)) bytes)
    ∙ ap₂ ◌++◌ words (sym h.zeros) ∙ take-append-drop n w
