-- Ones that go into buffers.
use Rattle.std.proofs.Common.{◌≡◌, ℕ, ◌+◌, ◌-◌, ◌<◌, ◌≤◌, List, [], ◌∷◌, ◌++◌, map, take, drop, get_or, length, sym, ap, ◌∙◌, subst, arith, length-drop}
use Rattle.std.specs.Prelude.{slice_range, slice_get, Some}
use Rattle.std.specs.List.Sorted.{IsPermutation}
use Rattle.std.proofs.lemmas.List.{map-append, append_assoc, append-nil, take_more, get_or-drop}
use Rattle.std.proofs.lemmas.List.Concat.{flat_map-append}
use Rattle.std.proofs.lemmas.List.Elements.{filter-append}
use Rattle.std.proofs.lemmas.List.Sorted.{IsPermutation-trans, IsPermutation-append_left}
use Rattle.std.proofs.lemmas.Option.{get_or_from_slice_get}
use Rattle.bcl_words.specs.declared.pair.Pair.{Pair}
use Rattle.bcl_segment.specs.declared.layout.Layout.{Layout}
use Rattle.bcl_buffer.specs.Lanes.{Lanes, lane}
use Rattle.kmer_text.specs.Kmers.{number_of}
use Rattle.kmer_text.specs.Windows.{windows, all_windows}
use Rattle.kmer_count.specs.Fills.{ones_for, Fills}

abbrev Ones : Type 0
Ones = List (Pair ℕ ℕ)

pub ones-append : (shape : Layout) (rank : ℕ) (xs ys : List ℕ) → ones_for shape rank (xs ++ ys) ≡ ones_for shape rank xs ++ ones_for shape rank ys
ones-append shape rank xs ys = ap (map _) (filter-append _ xs ys) ∙ map-append _ _ _

pub fills_trans : (xs ys : List ℕ) (a b c : Lanes (Pair ℕ ℕ)) → Fills xs a b → Fills ys b c → Fills (xs ++ ys) a c
fills_trans xs ys a b c p q = record {
  rank = q.rank ∙ p.rank;
  shape = q.shape ∙ p.shape;
  filling = q.filling;
  lanes = λ rank.
      let more = ones_for a.shape rank ys in
      let all : lane a rank ++ ones_for a.shape rank (xs ++ ys) ≡ (lane a rank ++ ones_for a.shape rank xs) ++ more =
      ap (λ (l : Ones). lane a rank ++ l) (ones-append a.shape rank xs ys) ∙ sym (append_assoc (lane a rank) (ones_for a.shape rank xs) more) in
      subst (λ (l : Ones). IsPermutation l (lane c rank)) (sym all)
      (IsPermutation-trans ((lane a rank ++ ones_for a.shape rank xs) ++ more) (lane b rank ++ more) (lane c rank)
      (IsPermutation-append_left more (lane a rank ++ ones_for a.shape rank xs) (lane b rank) (p.lanes rank))
      (subst (λ (s : Layout). IsPermutation (lane b rank ++ ones_for s rank ys) (lane c rank)) p.shape (q.lanes rank)));
}

-- the windows of one line more
pub windows_more : (k : ℕ) (lines : List (List ℕ)) (first i : ℕ) (line : List ℕ) → first ≤ i → i < length lines → slice_get lines i ≡ Some line
    → map number_of (all_windows k (slice_range lines first (i + 1))) ≡ map number_of (all_windows k (slice_range lines first i)) ++ map number_of (windows k line)
windows_more k lines first i line low high is =
    let n : i + 1 - first ≡ (i - first) + 1 = omega arith in
    let at : first + (i - first) ≡ i = omega arith in
    let len : length (drop first lines) ≡ length lines - first = length-drop first lines in
    let rest = drop first lines in
    let here : get_or rest (i - first) line ≡ line = get_or-drop first lines (i - first) line ∙ (ap (λ (j : ℕ). get_or lines j line) at ∙ get_or_from_slice_get lines i line line is) in
    let more : take (i + 1 - first) rest ≡ take (i - first) rest ++ line ∷ [] = ap (λ (m : ℕ). take m rest) n ∙ (take_more rest (i - first) line (omega arith) ∙ ap (λ (l : List ℕ). take (i - first) rest ++ l ∷ []) here) in
    ap (λ (ls : List (List ℕ)). map number_of (all_windows k ls)) more
    ∙ (ap (map number_of) (flat_map-append (windows k) (take (i - first) rest) (line ∷ []) ∙ ap (λ (ws : List (List ℕ)). all_windows k (take (i - first) rest) ++ ws) (append-nil (windows k line)))
    ∙ map-append number_of (all_windows k (take (i - first) rest)) (windows k line))
