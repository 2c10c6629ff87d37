-- One word more of bytes.
use Rattle.std.proofs.Common.{◌≡◌, ℕ, zero, suc, ◌+◌, ◌-◌, ◌*◌, ◌<◌, ◌≤◌, List, [], ◌∷◌, ◌++◌, length, get_or, take, drop, set, replicate, refl, sym, ap, ap₂, ◌∙◌, arith, add-one, append_assoc}
use Rattle.std.specs.Int.{from_le_bytes, to_le_bytes, w64}
use Rattle.std.proofs.Math.Seq.{set-append_seam}
use Rattle.std.proofs.lemmas.List.{drop-drop, take_at, drop_at, length-take-le, take_more, flat_map_more}
use borrow.Rule.Slice.PartMut.{put_mid}
use Rattle.bcl_words.specs.Bytes.{byte_words, bytes_of}
use Rattle.bcl_words.specs.ByteLaws.{length-byte_words}
use Rattle.bcl_words.proofs.BytesRead.{bytes_of_words}

-- the words of bytes, and the next one
byte_words-suc : (i : ℕ) (bytes : List ℕ) → byte_words (suc i) bytes ≡ byte_words i bytes ++ from_le_bytes w64 (take 8 (drop (8 * i) bytes)) ∷ []
unfolding byte_words
byte_words-suc zero bytes = refl
byte_words-suc (suc i) bytes =
    ap (λ l. from_le_bytes w64 (take 8 bytes) ∷ l) (byte_words-suc i (drop 8 bytes))
    ∙ ap (λ (l : List ℕ). from_le_bytes w64 (take 8 bytes) ∷ byte_words i (drop 8 bytes) ++ from_le_bytes w64 (take 8 l) ∷ []) (drop-drop (8 * i) 8 bytes ∙ ap (λ n. drop n bytes) (omega arith))

pub no_words : (bytes : List ℕ) → byte_words 0 bytes ≡ []
unfolding byte_words
no_words bytes = refl

pub word_written : (i : ℕ) (bytes : List ℕ) (v : ℕ) → i < 8 → v ≡ from_le_bytes w64 (take 8 (drop (8 * i) bytes)) → set (byte_words i bytes ++ replicate (8 - i) 0) i v ≡ byte_words (i + 1) bytes ++ replicate (8 - (i + 1)) 0
word_written i bytes v h e =
    let rest : List ℕ = replicate (8 - (i + 1)) 0 in
    let words : List ℕ = byte_words i bytes in
    let n : 8 - i ≡ suc (8 - (i + 1)) = omega arith in
    ap (λ k. set (words ++ replicate k 0) i v) n
    ∙ ap (λ k. set (words ++ 0 ∷ rest) k v) (sym (length-byte_words i bytes))
    ∙ set-append_seam words 0 rest v
    ∙ ap (λ x. words ++ x ∷ rest) e
    ∙ sym (append_assoc words (from_le_bytes w64 (take 8 (drop (8 * i) bytes)) ∷ []) rest)
    ∙ ap (λ l. l ++ rest) (sym (byte_words-suc i bytes) ∙ ap (λ k. byte_words k bytes) (sym (add-one i)))

-- the bytes of words, and of the next one
pub bytes_written : (i : ℕ) (w old xs ys : List ℕ) → i < length w → 8 * i ≤ length old → xs ≡ bytes_of (take i w) ++ drop (8 * i) old → ys ≡ to_le_bytes w64 (get_or w i 0) → put_mid (8 * i) (8 * i + 8 - 8 * i) xs ys ≡ bytes_of (take (i + 1) w) ++ drop (8 * (i + 1)) old
bytes_written i w old xs ys h room e f =
    let front : List ℕ = bytes_of (take i w) in
    let rest : List ℕ = drop (8 * i) old in
    let len : length front ≡ 8 * i = (bytes_of_words (take i w)).len ∙ ap (λ n. 8 * n) (length-take-le i w (omega arith)) in
    let behind : drop (8 * i + 8 - 8 * i) (drop (8 * i) (front ++ rest)) ≡ drop (8 * (i + 1)) old =
    ap (drop (8 * i + 8 - 8 * i)) (drop_at front rest (8 * i) len) ∙ drop-drop (8 * i + 8 - 8 * i) (8 * i) old ∙ ap (λ n. drop n old) (omega arith) in
    let next : front ++ to_le_bytes w64 (get_or w i 0) ≡ bytes_of (take (i + 1) w) =
    flat_map_more (to_le_bytes w64) [] (take i w) (get_or w i 0) ∙ ap bytes_of (sym (take_more w i 0 h)) in
    ap₂ (λ (p q : List ℕ). put_mid (8 * i) (8 * i + 8 - 8 * i) p q) e f
    ∙ ap₂ (λ (p q : List ℕ). p ++ (to_le_bytes w64 (get_or w i 0) ++ q)) (take_at front rest (8 * i) len) behind
    ∙ sym (append_assoc front (to_le_bytes w64 (get_or w i 0)) (drop (8 * (i + 1)) old))
    ∙ ap (λ l. l ++ drop (8 * (i + 1)) old) next
