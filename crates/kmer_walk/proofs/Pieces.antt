-- Texts one behind another, cut where each ends.
use Rattle.std.proofs.Common.{◌≡◌, ◌∙◌, ℕ, zero, suc, ◌+◌, ◌-◌, ◌<◌, ◌≤◌, List, [], ◌∷◌, ◌++◌, length, take, drop, get_or, refl, sym, ap, add-one, arith, length-append, append-nil, append_assoc, take-append-drop}
use Rattle.std.specs.List.{flat_map}
use Rattle.std.proofs.Math.Seq.{drop-append_seam, take-append_seam}
use Rattle.std.proofs.lemmas.Grind.{flat_map-append}
use Rattle.std.proofs.lemmas.List.{take_more, get_or_default}
use Rattle.kmer_walk.specs.declared.walker.Texts.{Texts}
use Rattle.kmer_walk.specs.Texts.{ends_from, AreTexts, HaveTexts}

abbrev pub joined : List (List ℕ) → List ℕ
joined texts = flat_map (λ text. text) texts

-- where the text behind the first so many begins
abbrev pub begins : List (List ℕ) → ℕ → ℕ
begins own i = length (joined (take i own))

pub ends_long : (at : ℕ) (own : List (List ℕ)) → length (ends_from at own) ≡ length own
ends_long at [] = refl
ends_long at (text ∷ own) = ap suc (ends_long (at + length text) own)

end_from : (at : ℕ) (own : List (List ℕ)) (i : ℕ) → i < length own → get_or (ends_from at own) i 0 ≡ at + begins own (suc i)
end_from at [] i low = absurd (omega arith)
end_from at (text ∷ own) zero low = let long = length-append text [] in omega arith
end_from at (text ∷ own) (suc i) low =
    let rest = end_from (at + length text) own i (omega arith) in
    let long = length-append text (joined (take (suc i) own)) in
    omega arith

one_more : (own : List (List ℕ)) (i : ℕ) → i < length own → joined (take (i + 1) own) ≡ joined (take i own) ++ get_or own i []
one_more own i low =
    let text = get_or own i [] in
    ap joined (take_more own i [] low) ∙ (flat_map-append (λ text. text) (take i own) (text ∷ []) ∙ ap (λ (l : List ℕ). joined (take i own) ++ l) (append-nil text))

-- the texts of a part, of which the i-th is cut out
module _ (own : List (List ℕ)) (bytes ends : List ℕ) (are : AreTexts own bytes ends) where
  pub as_many : length ends ≡ length own
  as_many = ap length are.ends_are ∙ ends_long 0 own

  module _ (i : ℕ) (low : i < length ends) where
    low_text : i < length own
    low_text = let many = as_many in omega arith

    pub ends_at : (d : ℕ) → get_or ends i d ≡ begins own (i + 1)
    ends_at d = let last = end_from 0 own i low_text in let same = ap (begins own) (add-one i) in get_or_default ends i d 0 low ∙ (ap (λ (l : List ℕ). get_or l i 0) are.ends_are ∙ omega arith)

    pub rises : begins own i ≤ begins own (i + 1)
    rises = let long = length-append (joined (take i own)) (get_or own i []) in let more = ap length (one_more own i low_text) in omega arith

    whole : bytes ≡ joined (take (i + 1) own) ++ joined (drop (i + 1) own)
    whole = are.bytes_are ∙ (ap joined (sym (take-append-drop (i + 1) own)) ∙ flat_map-append (λ text. text) (take (i + 1) own) (drop (i + 1) own))

    pub ends_within : begins own (i + 1) ≤ length bytes
    ends_within = let all = ap length whole in let long = length-append (joined (take (i + 1) own)) (joined (drop (i + 1) own)) in omega arith

    pub piece : take (begins own (i + 1) - begins own i) (drop (begins own i) bytes) ≡ get_or own i []
    piece =
        let front = joined (take i own) in
        let text = get_or own i [] in
        let rest = joined (drop (i + 1) own) in
        let is : bytes ≡ front ++ (text ++ rest) = whole ∙ (ap (λ (l : List ℕ). l ++ rest) (one_more own i low_text) ∙ append_assoc front text rest) in
        let more = ap length (one_more own i low_text) in
        let sum = length-append front text in
        let long : begins own (i + 1) - begins own i ≡ length text = omega arith in
        (λ j. take (long j) (drop (begins own i) (is j)))
        ∙ (ap (take (length text)) (drop-append_seam front (text ++ rest)) ∙ take-append_seam text rest)

-- the texts of all parts
pub parts_many : (all : List (List (List ℕ))) (parts : List Texts) → HaveTexts all parts → length all ≡ length parts
parts_many [] [] have = refl
parts_many [] (p ∷ parts) have = absurd have
parts_many (own ∷ all) [] have = absurd have
parts_many (own ∷ all) (p ∷ parts) have = ap suc (parts_many all parts have.1)

pub part_has : (all : List (List (List ℕ))) (parts : List Texts) → HaveTexts all parts → (i : ℕ) (d : Texts) → i < length parts → AreTexts (get_or all i []) (get_or parts i d).bytes.items (get_or parts i d).ends.items
part_has [] [] have i d low = absurd (omega arith)
part_has [] (p ∷ parts) have i d low = absurd have
part_has (own ∷ all) [] have i d low = absurd have
part_has (own ∷ all) (p ∷ parts) have zero d low = have.0
part_has (own ∷ all) (p ∷ parts) have (suc i) d low = part_has all parts have.1 i d (omega arith)

pub parts_more : (all : List (List (List ℕ))) (i : ℕ) → i < length all → flat_map (λ own. own) (take (i + 1) all) ≡ flat_map (λ own. own) (take i all) ++ get_or all i []
parts_more all i low =
    let own = get_or all i [] in
    ap (flat_map (λ own. own)) (take_more all i [] low) ∙ (flat_map-append (λ own. own) (take i all) (own ∷ []) ∙ ap (λ (l : List (List ℕ)). flat_map (λ own. own) (take i all) ++ l) (append-nil own))
