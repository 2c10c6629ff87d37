-- How long the text of texts is.
use Rattle.std.proofs.Common.{◌≡◌, ◌∙◌, ℕ, ◌+◌, List, [], ◌∷◌, ◌++◌, length, arith, ap, length-append}
use Rattle.std.proofs.lemmas.List.{append-nil}
use Rattle.std.proofs.lemmas.Grind.{flat_map-append}
use Rattle.kmer_paths.specs.Contigs.{text_of}

abbrev pub bytes_of : List (List ℕ) → ℕ
bytes_of texts = length (text_of texts)

pub bytes-append : (xs ys : List (List ℕ)) → bytes_of (xs ++ ys) ≡ bytes_of xs + bytes_of ys
bytes-append xs ys = ap length (flat_map-append (λ text. text ++ 10 ∷ []) xs ys) ∙ length-append (text_of xs) (text_of ys)

pub bytes-one : (text : List ℕ) → bytes_of (text ∷ []) ≡ length text + 1
bytes-one text = omega (arith, ap length (append-nil (text ++ 10 ∷ [])), length-append text (10 ∷ []))
