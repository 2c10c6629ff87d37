-- That bytes keep the laws of objects, for any number of words.
-- The laws of `Object` at `Bytes16` and `Bytes64` cite these.
use Rattle.std.specs.Prelude.{◌≡◌, ℕ, zero, suc, ◌-◌, ◌*◌, ◌<◌, ◌↔◌, List, [], ◌++◌, true, false, ◌==◌, nat_lt, length, replicate, drop, take}
use Rattle.std.specs.List.{All, list_all}
use Rattle.std.specs.Int.{from_le_bytes, to_le_bytes, w64}
use Rattle.std.proofs.Common.{ap, ap₂, sym, refl, subst, ◌∙◌, arith, ⊎_elim, get_or, take-append-drop, length-drop, eqb}
use Rattle.std.proofs.lemmas.Bool.{and_parts, cond-true, cond-false, cases_Bool, false≢true, cases_lt}
use Rattle.std.proofs.lemmas.Bool.Decides.{Decides-eqb}
use Rattle.std.proofs.lemmas.List.{length-take-le, get_or_past, take_at, nil_from_length}
use Rattle.std.proofs.lemmas.List.Elements.{All-take, All-drop}
use Rattle.std.proofs.lemmas.Nat.{le_bytes_8}
use lib.Pointwise.{pointwise, bytes_decides}
use Rattle.bcl_words.specs.Words.{is_words}
use Rattle.bcl_words.specs.Bytes.{are_bytes, byte_words, padded_words}
use Rattle.bcl_words.specs.WordLaws.{all_below}

-- ---- eight bytes and a word

-- so many bytes
pub record AreBytes (n : ℕ) (bytes : List ℕ) : Type 0 where
  pub len : length bytes ≡ n
  pub in_range : All (λ byte. byte < 256) bytes

pub bytes_if_test : (n : ℕ) (bytes : List ℕ) → are_bytes n bytes ≡ true → AreBytes n bytes
bytes_if_test n bytes p =
    let h = and_parts (length bytes == n) (list_all (λ byte. nat_lt byte 256) bytes) p in
    record { len = (Decides-eqb (length bytes) n).0 h.0; in_range = all_below bytes 256 h.1 }

pub front_bytes : (n : ℕ) (bytes : List ℕ) → AreBytes (8 * suc n) bytes → AreBytes 8 (take 8 bytes)
front_bytes n bytes h =
    record { len = length-take-le 8 bytes (omega (arith, h.len)); in_range = All-take (λ byte. byte < 256) 8 bytes h.in_range }

pub rest_bytes : (n : ℕ) (bytes : List ℕ) → AreBytes (8 * suc n) bytes → AreBytes (8 * n) (drop 8 bytes)
rest_bytes n bytes h =
    record { len = omega (arith, length-drop 8 bytes, h.len); in_range = All-drop (λ byte. byte < 256) 8 bytes h.in_range }

pub at_each : (n : ℕ) (bytes : List ℕ) → AreBytes n bytes → (i : ℕ) → get_or bytes i 0 < 256
at_each n bytes h i = ⊎_elim (λ l. h.in_range i 0 l) (λ g. rw (get_or_past bytes i 0 g) (omega arith)) (cases_lt i (length bytes))

-- the bytes of the word of eight bytes
back : (bytes : List ℕ) → AreBytes 8 bytes → to_le_bytes w64 (from_le_bytes w64 bytes) ≡ bytes
back bytes h = le_bytes_8 bytes (from_le_bytes w64 bytes) h.len (at_each 8 bytes h) refl

-- ---- many words

pub length-byte_words : (n : ℕ) (bytes : List ℕ) → length (byte_words n bytes) ≡ n
unfolding byte_words
length-byte_words zero bytes = refl
length-byte_words (suc n) bytes = ap suc (length-byte_words n (drop 8 bytes))

words_same : (n : ℕ) (x y : List ℕ) → AreBytes (8 * n) x → AreBytes (8 * n) y → byte_words n x ≡ byte_words n y → x ≡ y
unfolding byte_words
words_same zero x y h i e = nil_from_length x h.len ∙ sym (nil_from_length y i.len)
words_same (suc n) x y h i e =
    let first : from_le_bytes w64 (take 8 x) ≡ from_le_bytes w64 (take 8 y) = cc in
    let rest : byte_words n (drop 8 x) ≡ byte_words n (drop 8 y) = cc in
    sym (take-append-drop 8 x)
    ∙ ap₂ ◌++◌
    (sym (back (take 8 x) (front_bytes n x h)) ∙ ap (to_le_bytes w64) first ∙ back (take 8 y) (front_bytes n y i))
    (words_same n (drop 8 x) (drop 8 y) (rest_bytes n x h) (rest_bytes n y i) rest)
    ∙ take-append-drop 8 y

-- ---- the laws

pub padded_when : (n : ℕ) (bytes : List ℕ) → are_bytes (8 * n) bytes ≡ true → padded_words n bytes ≡ byte_words n bytes ++ replicate (8 - n) 0
padded_when n bytes p = cond-true (are_bytes (8 * n) bytes) (byte_words n bytes ++ replicate (8 - n) 0) [] p

-- bytes whose words pass are so many
passing : (n : ℕ) (bytes : List ℕ) → is_words n (padded_words n bytes) ≡ true → are_bytes (8 * n) bytes ≡ true
passing n bytes p = ⊎_elim (λ t. t) (λ f. absurd (none f)) (cases_Bool (are_bytes (8 * n) bytes))
  where
    none : are_bytes (8 * n) bytes ≡ false → ⊥
    none f = false≢true (subst (λ l. is_words n l ≡ true) (cond-false (are_bytes (8 * n) bytes) (byte_words n bytes ++ replicate (8 - n) 0) [] f) p)

pub bytes_same : (n : ℕ) (x y : List ℕ) → is_words n (padded_words n x) ≡ true → is_words n (padded_words n y) ≡ true → padded_words n x ≡ padded_words n y → x ≡ y
bytes_same n x y p q e =
    let px = passing n x p in
    let py = passing n y q in
    let w = sym (padded_when n x px) ∙ e ∙ padded_when n y py in
    words_same n x y (bytes_if_test (8 * n) x px) (bytes_if_test (8 * n) y py)
    (sym (take_at (byte_words n x) (replicate (8 - n) 0) n (length-byte_words n x))
    ∙ ap (take n) w ∙ take_at (byte_words n y) (replicate (8 - n) 0) n (length-byte_words n y))

pub bytes_equal : (n : ℕ) (x y : List ℕ) → is_words n (padded_words n x) ≡ true → is_words n (padded_words n y) ≡ true → (pointwise eqb x y ≡ true) ↔ (padded_words n x ≡ padded_words n y)
bytes_equal n x y p q = (λ t. ap (padded_words n) ((bytes_decides x y).0 t), λ e. (bytes_decides x y).1 (bytes_same n x y p q e))
