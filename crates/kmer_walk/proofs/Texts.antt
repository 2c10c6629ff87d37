-- Texts one behind another, one text more, and how long they are with a newline behind each.
use Rattle.std.proofs.Common.{◌≡◌, ◌∙◌, ℕ, ◌+◌, ◌<◌, ◌≤◌, List, [], ◌∷◌, ◌++◌, length, map, take, drop, get_or, refl, sym, ap, arith, append-nil, length-append, take-append-drop}
use Rattle.std.specs.List.{flat_map}
use Rattle.std.proofs.lemmas.Grind.{flat_map-append}
use Rattle.std.proofs.lemmas.List.{map-append, take_more}
use Rattle.kmer_paths.proofs.Bytes.{bytes_of, bytes-append, bytes-one}
use Rattle.kmer_walk.specs.Texts.{ends_from, AreTexts}

abbrev joined : List (List ℕ) → List ℕ
joined texts = flat_map (λ text. text) texts

ends_from-push : (at : ℕ) (texts : List (List ℕ)) (text : List ℕ) → ends_from at (texts ++ text ∷ []) ≡ ends_from at texts ++ (at + length (joined texts) + length text) ∷ []
ends_from-push at [] text = let end : at + length text ≡ at + 0 + length text = omega arith in ap (λ (n : ℕ). n ∷ []) end
ends_from-push at (first ∷ texts) text =
    let long = length-append first (joined texts) in
    let end : at + length first + length (joined texts) + length text ≡ at + length (first ++ joined texts) + length text = omega arith in
    ap (λ (ends : List ℕ). (at + length first) ∷ ends) (ends_from-push (at + length first) texts text ∙ ap (λ (n : ℕ). ends_from (at + length first) texts ++ n ∷ []) end)

pub texts_none : AreTexts [] [] []
texts_none = record { bytes_are = refl; ends_are = refl }

pub texts_push : (texts : List (List ℕ)) (text bytes ends : List ℕ) → AreTexts texts bytes ends → AreTexts (texts ++ text ∷ []) (bytes ++ text) (ends ++ length (bytes ++ text) ∷ [])
texts_push texts text bytes ends are =
    let long = length-append bytes text in
    let same = ap length are.bytes_are in
    let end : length (bytes ++ text) ≡ 0 + length (joined texts) + length text = omega arith in
    record {
      bytes_are = ap (λ (xs : List ℕ). xs ++ text) are.bytes_are
          ∙ sym (flat_map-append (λ text. text) texts (text ∷ []) ∙ ap (λ (xs : List ℕ). joined texts ++ xs) (append-nil text));
      ends_are = ap (λ (xs : List ℕ). xs ++ length (bytes ++ text) ∷ []) are.ends_are
          ∙ (ap (λ (n : ℕ). ends_from 0 texts ++ n ∷ []) end ∙ sym (ends_from-push 0 texts text));
    }

-- ---- the texts of the first so many
module _ (text_in : ℕ → List ℕ) (xs : List ℕ) where
  abbrev texts_to : ℕ → List (List ℕ)
  texts_to i = map text_in (take i xs)

  pub texts-more : (i : ℕ) → i < length xs → texts_to (i + 1) ≡ texts_to i ++ text_in (get_or xs i 0) ∷ []
  texts-more i h = ap (map text_in) (take_more xs i 0 h) ∙ map-append text_in (take i xs) (get_or xs i 0 ∷ [])

  pub bytes-more : (i : ℕ) → i < length xs → bytes_of (texts_to (i + 1)) ≡ bytes_of (texts_to i) + (length (text_in (get_or xs i 0)) + 1)
  bytes-more i h =
      let text = text_in (get_or xs i 0) in
      ap bytes_of (texts-more i h) ∙ (bytes-append (texts_to i) (text ∷ []) ∙ ap (λ (n : ℕ). bytes_of (texts_to i) + n) (bytes-one text))

  pub bytes-rise : (i : ℕ) → bytes_of (texts_to i) ≤ bytes_of (map text_in xs)
  bytes-rise i =
      let later = map text_in (drop i xs) in
      let parts : map text_in xs ≡ texts_to i ++ later = ap (map text_in) (sym (take-append-drop i xs)) ∙ map-append text_in (take i xs) (drop i xs) in
      omega (arith, ap bytes_of parts, bytes-append (texts_to i) later)
