-- What the buffers of all ranks have for one rank, where each has the items of the rank's share in some order.
-- A flush makes the rank merge those, and so the ranks together merge all items.
use Rattle.std.proofs.Common.{◌≡◌, ℕ, suc, ◌+◌, ◌<◌, List, [], ◌∷◌, ◌++◌, length, map, refl, sym, ap, ◌∙◌, subst, arith}
use Rattle.std.specs.List.{flat_map, range_with_len}
use Rattle.std.specs.List.Sorted.{IsPermutation}
use Rattle.std.proofs.lemmas.List.{map-append}
use Rattle.std.proofs.lemmas.List.Elements.{filter-append}
use Rattle.std.proofs.lemmas.List.Sorted.{IsPermutation-refl, IsPermutation-trans, IsPermutation-append}
use Rattle.bcl_words.specs.declared.pair.Pair.{Pair}
use Rattle.bcl_event.specs.declared.map.MapCall.{MapCall}
use Rattle.bcl_event.specs.History.{of}
use Rattle.bcl_event.specs.Merged.{MapHistory}
use Rattle.bcl_map.specs.declared.shape.Shape.{Shape}
use Rattle.bcl_map.specs.Map.{Words}
use Rattle.bcl_map.specs.Calls.{MapView}
use Rattle.bcl_buffer.specs.Lanes.{Lanes, lane}
use Rattle.bcl_buffer.specs.Exchanges.{at}
use Rattle.bcl_buffer.specs.Drains.{merge_pair}
use Rattle.bcl_buffer.specs.Flushes.{column, MergedOnce}
use Rattle.bcl_buffer.proofs.Dealt.{call_of, those_at}

-- what is made of the parts is made of the whole
pub of_parts : {X Y : Type 0} (make : List X → List Y) → make [] ≡ [] → ((xs ys : List X) → make (xs ++ ys) ≡ make xs ++ make ys) → (has : ℕ → List X) (rs : List ℕ) → flat_map (λ r. make (has r)) rs ≡ make (flat_map has rs)
of_parts make none joins has [] = sym none
of_parts make none joins has (r ∷ rs) = ap (λ l. make (has r) ++ l) (of_parts make none joins has rs) ∙ sym (joins (has r) (flat_map has rs))

module _ {P Q : Type 0} (f : P → Q) (rank : ℕ) where
  -- each buffer has for the rank, in some order, what f makes these of
  column_of : (has : ℕ → List Q) (first : ℕ) (buffers : List (Lanes P)) → ((i : ℕ) → i < length buffers → IsPermutation (has (first + i)) (map f (lane (at buffers i) rank)))
      → IsPermutation (flat_map has (range_with_len first (length buffers))) (map f (column rank buffers))
  column_of has first [] each = IsPermutation-refl []
  column_of has first (b ∷ buffers) each =
      let rest = flat_map has (range_with_len (first + 1) (length buffers)) in
      subst (λ (l : List Q). IsPermutation (has first ++ rest) l) (sym (map-append f (lane b rank) (column rank buffers)))
      (IsPermutation-append (has first) (map f (lane b rank)) rest (map f (column rank buffers))
      (subst (λ (n : ℕ). IsPermutation (has n) (map f (lane b rank))) (omega arith) (each 0 (omega arith)))
      (column_of has (first + 1) buffers (λ i low. subst (λ (n : ℕ). IsPermutation (has n) (map f (lane (at buffers i) rank))) (omega arith) (each (suc i) (omega arith)))))

module _ {K V X : Type 0} (key : K → Words) (value : V → Words) (home_of : X → ℕ) (call : X → MapCall Words Words) where
  -- the calls of the items whose home a rank is
  abbrev pub calls_at : ℕ → List X → List (MapCall Words Words)
  calls_at rank xs = map call (those_at home_of rank xs)

  module _ (ranks : ℕ) (share : ℕ → List X) (items : List X) (whole : flat_map share (range_with_len 0 ranks) ≡ items) (buffers : List (Lanes (Pair K V))) (long : length buffers ≡ ranks)
      (lanes : (r d : ℕ) → r < ranks → IsPermutation (calls_at d (share r)) (map (merge_pair key value) (lane (at buffers r) d))) where
    column_has : (rank : ℕ) → IsPermutation (calls_at rank items) (map (merge_pair key value) (column rank buffers))
    column_has rank =
        let merges = map (merge_pair key value) (column rank buffers) in
        subst (λ (l : List (MapCall Words Words)). IsPermutation l merges)
        (of_parts (calls_at rank) refl (λ xs ys. ap (map call) (filter-append _ xs ys) ∙ map-append call _ _) share (range_with_len 0 ranks) ∙ ap (calls_at rank) whole)
        (subst (λ (n : ℕ). IsPermutation (flat_map (λ r. calls_at rank (share r)) (range_with_len 0 n)) merges) long
        (column_of (merge_pair key value) rank (λ r. calls_at rank (share r)) 0 buffers (λ i low. subst (λ (n : ℕ). IsPermutation (calls_at rank (share n)) (map (merge_pair key value) (lane (at buffers i) rank))) (omega arith) (lanes i rank (omega arith)))))

    -- what a rank has merged in a flush, whose pass had merged nothing before
    pub own_of : (op : Words → Words → Words) (shape : Shape) (rank : ℕ) (old new : MapView) (history : MapHistory) → old.mine ≡ [] → MergedOnce key value op shape (column rank buffers) old new → of rank history ≡ new.mine
        → IsPermutation (calls_at rank items) (map call_of (of rank history))
    own_of op shape rank old new history none merged own =
        let mine : of rank history ≡ merged.events = own ∙ (merged.ran.mine ∙ ap (λ (l : MapHistory). l ++ merged.events) none) in
        subst (λ (es : MapHistory). IsPermutation (calls_at rank items) (map call_of es)) (sym mine)
        (IsPermutation-trans (calls_at rank items) (map (merge_pair key value) (column rank buffers)) (map call_of merged.events) (column_has rank) merged.once)
