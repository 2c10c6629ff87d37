-- The contigs of all ranks together.
use Rattle.std.proofs.Common.{◌≡◌, ◌∙◌, ℕ, suc, ◌+◌, ◌<◌, List, [], ◌∷◌, ◌++◌, length, map, refl, sym, ap, subst, arith, length-append}
use Rattle.std.specs.List.{flat_map, range_with_len}
use Rattle.std.proofs.lemmas.List.{map-append}
use Rattle.std.proofs.lemmas.List.Sums.{sum_by-cons}
use mathlib.Core.Option.{some}
use lib.ListN.{get_elem?}
use Rattle.kmer_paths.specs.Contigs.{is_start, starts, contig, in_byte_order, text_of}
use Rattle.kmer_paths.proofs.ByteOrder.{bytes-sorted}
use Rattle.kmer_paths.proofs.Bytes.{bytes-append}
use Rattle.kmer_walk.specs.declared.walker.Texts.{Texts}
use Rattle.kmer_walk.specs.Nodes.{starts_of}
use Rattle.kmer_walk.specs.Texts.{AreTexts, HaveTexts, size_of}
use Rattle.kmer_walk.proofs.AllBlocks.{blocks_are_whole}
use Rattle.kmer_walk.proofs.Pieces.{ends_long}

-- ---- how long texts are that lie one behind another

bytes_of_texts : (texts : List (List ℕ)) → length (text_of texts) ≡ length (flat_map (λ text. text) texts) + length texts
bytes_of_texts [] = refl
bytes_of_texts (text ∷ texts) =
    omega (arith, bytes_of_texts texts, length-append (text ++ 10 ∷ []) (text_of texts), length-append text (10 ∷ []), length-append text (flat_map (λ t. t) texts))

part_long : (texts : List (List ℕ)) (bytes ends : List ℕ) → AreTexts texts bytes ends → length bytes + length ends ≡ length (text_of texts)
part_long texts bytes ends are = let b = ap length are.bytes_are in let e = ap length are.ends_are in let n = ends_long 0 texts in let all = bytes_of_texts texts in omega arith

pub size_is : (all : List (List (List ℕ))) (parts : List Texts) → HaveTexts all parts → size_of parts ≡ length (text_of (flat_map (λ own. own) all))
size_is [] [] have = refl
size_is [] (p ∷ parts) have = absurd have
size_is (own ∷ all) [] have = absurd have
size_is (own ∷ all) (p ∷ parts) have =
    sum_by-cons (λ (part : Texts). length part.bytes.items + length part.ends.items) p parts
    ∙ (let here = part_long own p.bytes.items p.ends.items have.0 in let rest = size_is all parts have.1 in let sum = bytes-append own (flat_map (λ own. own) all) in omega arith)

-- ---- the contigs of each rank's starts

have_from : (has : ℕ → List (List ℕ)) (first : ℕ) (parts : List Texts) → ((i : ℕ) (t : Texts) → get_elem? parts i ≡ some t → AreTexts (has (first + i)) t.bytes.items t.ends.items)
    → HaveTexts (map has (range_with_len first (length parts))) parts
have_from has first [] each = tt
have_from has first (p ∷ parts) each = (
  subst (λ (n : ℕ). AreTexts (has n) p.bytes.items p.ends.items) (omega arith) (each 0 p refl),
  have_from has (first + 1) parts (λ i t at. subst (λ (n : ℕ). AreTexts (has n) t.bytes.items t.ends.items) (omega arith) (each (suc i) t at)),
)

flat_of_map : {X : Type 0} (has : ℕ → List X) (ns : List ℕ) → flat_map (λ own. own) (map has ns) ≡ flat_map has ns
flat_of_map has [] = refl
flat_of_map has (n ∷ ns) = ap (λ l. has n ++ l) (flat_of_map has ns)

map_of_flat : {X : Type 0} (f : ℕ → X) (has : ℕ → List ℕ) (ns : List ℕ) → flat_map (λ n. map f (has n)) ns ≡ map f (flat_map has ns)
map_of_flat f has [] = refl
map_of_flat f has (n ∷ ns) = ap (λ l. map f (has n) ++ l) (map_of_flat f has ns) ∙ sym (map-append f (has n) (flat_map has ns))

module _ (k : ℕ) (lines : List (List ℕ)) (ranks : ℕ) (some_rank : 0 < ranks) where
  abbrev pub contigs_of : ℕ → List (List ℕ)
  contigs_of rank = map (contig k lines) (starts_of k rank ranks lines)

  abbrev pub contigs_by_rank : List (List (List ℕ))
  contigs_by_rank = map contigs_of (range_with_len 0 ranks)

  pub have_contigs : (parts : List Texts) → length parts ≡ ranks → ((i : ℕ) (t : Texts) → get_elem? parts i ≡ some t → AreTexts (contigs_of i) t.bytes.items t.ends.items) → HaveTexts contigs_by_rank parts
  have_contigs parts long each = subst (λ (n : ℕ). HaveTexts (map contigs_of (range_with_len 0 n)) parts) long
      (have_from contigs_of 0 parts (λ i t at. subst (λ (n : ℕ). AreTexts (contigs_of n) t.bytes.items t.ends.items) (omega arith) (each i t at)))

  pub whole_contigs : flat_map (λ own. own) contigs_by_rank ≡ map (contig k lines) (starts k lines)
  whole_contigs =
      flat_of_map contigs_of (range_with_len 0 ranks)
      ∙ (map_of_flat (contig k lines) (λ rank. starts_of k rank ranks lines) (range_with_len 0 ranks)
      ∙ ap (map (contig k lines)) (blocks_are_whole (is_start k lines) ranks some_rank lines))

  -- how long the text of all contigs is, in whatever order
  pub text_long : (parts : List Texts) → length parts ≡ ranks → ((i : ℕ) (t : Texts) → get_elem? parts i ≡ some t → AreTexts (contigs_of i) t.bytes.items t.ends.items)
      → length (text_of (in_byte_order (map (contig k lines) (starts k lines)))) ≡ size_of parts
  text_long parts long each =
      bytes-sorted (map (contig k lines) (starts k lines))
      ∙ (ap (λ (texts : List (List ℕ)). length (text_of texts)) (sym whole_contigs) ∙ sym (size_is contigs_by_rank parts (have_contigs parts long each)))
