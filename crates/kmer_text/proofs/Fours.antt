-- The table of the words of four letters.
use Rattle.std.proofs.Common.{◌≡◌, ◌∙◌, ℕ, zero, suc, ◌+◌, ◌*◌, ◌/◌, ◌%◌, ◌<◌, Bool, true, ◌&&◌, List, [], ◌∷◌, get_or, refl, arith, ap, subst, sym, ⊎_elim}
use Rattle.std.specs.Str.{bytes_eq}
use Rattle.std.proofs.lemmas.Bool.{and_parts, cases_eq}
use Rattle.std.proofs.lemmas.Nat.{div-add-mod'}
use Rattle.std.proofs.lemmas.Slice.Eq.{bytes_eq-Decides}
use Rattle.kmer_text.specs.Kmers.{word_of}
use Rattle.kmer_text.specs.declared.kmer.TheConstants.{FOURS}
use Rattle.kmer_text.proofs.Numbers.{word_of-front}

-- the word at a place of the table
abbrev pub four_at : ℕ → List ℕ
four_at n = get_or FOURS (n * 4) 0 ∷ get_or FOURS (n * 4 + 1) 0 ∷ get_or FOURS (n * 4 + 2) 0 ∷ get_or FOURS (n * 4 + 3) 0 ∷ []

abbrev are_words : ℕ → Bool
are_words zero = true
are_words (suc n) = bytes_eq (four_at n) (word_of 4 n) && are_words n

below : (n p : ℕ) → are_words n ≡ true → p < n → bytes_eq (four_at p) (word_of 4 p) ≡ true
below zero p t h = absurd (omega arith)
below (suc n) p t h =
    let both = and_parts (bytes_eq (four_at n) (word_of 4 n)) (are_words n) t in
    ⊎_elim
    (λ (e : p ≡ n). subst (λ (m : ℕ). bytes_eq (four_at m) (word_of 4 m) ≡ true) (sym e) both.0)
    (λ ne. below n p both.1 (omega arith))
    (cases_eq p n)

-- the last four letters of a number
pub four_at-is : (n : ℕ) → four_at (n % 256) ≡ word_of 4 n
four_at-is n =
    let p = n % 256 in
    let low : p < 256 = omega arith in
    let whole : n / 256 * 256 + p ≡ n = div-add-mod' n 256 in
    (bytes_eq-Decides (four_at p) (word_of 4 p)).0 (below 256 p refl low)
    ∙ (sym (word_of-front 4 (n / 256) p) ∙ ap (word_of 4) whole)
