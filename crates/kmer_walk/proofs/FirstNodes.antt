-- The map of all nodes has the node of the first line of each key: the least of the nodes that are merged for it.
use Rattle.std.proofs.Common.{◌≡◌, ◌≢◌, ℕ, ◌+◌, ◌^◌, ◌<◌, List, [], ◌∷◌, Bool, true, eqb, get_or, drop, length, map, refl, sym, ap, ◌∙◌, subst, arith, None, ⊎_elim}
use Rattle.std.specs.Prelude.{All, Contains, filter, flat_map}
use Rattle.std.specs.List.{range_with_len}
use Rattle.std.specs.List.Sorted.{IsPermutation}
use Rattle.std.specs.Option.{option_map}
use Rattle.std.specs.Str.{bytes_eq}
use Rattle.std.proofs.lemmas.Bool.{both_ways, cases_eq, eqb-false, ne_eqb, not-true, not_from_false}
use Rattle.std.proofs.lemmas.Slice.Eq.{bytes_eq-Decides}
use Rattle.std.proofs.lemmas.List.Elements.{All-head, All-tail, All-weaker, All-filter, All-contains, Contains-get_or, filter_passes}
use Rattle.std.proofs.lemmas.List.Folds.{flat_map-map}
use Rattle.std.proofs.lemmas.List.FromFn.{length-range_with_len, get_or-range_with_len}
use Rattle.std.proofs.lemmas.List.Sorted.{IsPermutation-sym}
use Rattle.bcl_words.specs.Numbers.{one_word}
use Rattle.bcl_words.specs.NumberLaws.{one_same}
use Rattle.bcl_merge.specs.LeastWords.{least_of}
use Rattle.bcl_event.specs.Merged.{MapHistory, Merges, merged_by, merged_for, folded}
use Rattle.bcl_event.proofs.Folds.{values_are_folds}
use Rattle.bcl_map.specs.declared.shape.Shape.{Shape}
use Rattle.bcl_map.specs.Map.{places}
use Rattle.kmer_text.specs.Kmers.{IsKmerLength, word_of}
use Rattle.kmer_text.specs.Nodes.{bad_node, line_at}
use Rattle.kmer_text.proofs.GoodNodes.{node-good}
use Rattle.kmer_paths.specs.Keys.{has_key, first_place}
use Rattle.kmer_paths.proofs.Places.{has_key-empty, has_key-is, has_key-other}
use Rattle.kmer_walk.specs.Nodes.{has_node, key_at, node_at, nodes, number_at}
use Rattle.kmer_walk.specs.Book.{IsAtHome, IsStored, calls_of, merge_of, shape_of}
use Rattle.kmer_walk.specs.Finds.{HasFirsts}
use Rattle.kmer_walk.proofs.Elements.{Contains-filter, Contains-mapped, flat_map-filter}
use Rattle.kmer_walk.proofs.Least.{least, folded-words, least-position}

module _ (k : ℕ) (lines : List (List ℕ)) where
  -- ---- places that have a node
  abbrev IsNode : ℕ → Type 0
  IsNode p = (p < length lines) × (has_node lines p ≡ true)

  is_node : (p : ℕ) → Contains (nodes lines) p → IsNode p
  is_node p it = (
    All-contains (λ q. q < length lines) (nodes lines) p (All-filter (has_node lines) (λ q. q < length lines) (range_with_len 0 (length lines)) all) it,
    All-contains (λ q. has_node lines q ≡ true) (nodes lines) p (filter_passes (has_node lines) (range_with_len 0 (length lines))) it,
  )
    where
      all : All (λ q. q < length lines) (range_with_len 0 (length lines))
      all i d low =
          let within : i < length lines = subst (λ (n : ℕ). i < n) (length-range_with_len 0 (length lines)) low in
          subst (λ (n : ℕ). n < length lines) (sym (get_or-range_with_len 0 (length lines) i d within)) (omega arith)

  nodes_has : (p : ℕ) → IsNode p → Contains (nodes lines) p
  nodes_has p it =
      Contains-filter (has_node lines) (range_with_len 0 (length lines)) p
      (p, subst (λ (n : ℕ). p < n) (sym (length-range_with_len 0 (length lines))) it.0, get_or-range_with_len 0 (length lines) p p it.0 ∙ omega arith) it.1

  -- ---- merges of nodes
  merges_apart : (p q : ℕ) → merge_of k lines p ≡ merge_of k lines q → p ≡ q
  merges_apart p q same = let first : p + 1 ≡ q + 1 = cc in omega (arith, first)

  -- the places whose nodes a history merges, in order
  merged_places : (shape : Shape) (history : MapHistory) → All (IsAtHome k lines shape) history → (ps : List ℕ) × (calls_of history ≡ map (merge_of k lines) ps)
  merged_places shape [] all = ([], refl)
  merged_places shape (e ∷ history) all =
      let here = All-head (IsAtHome k lines shape) e history all in
      let later = merged_places shape history (All-tail (IsAtHome k lines shape) e history all) in
      (here.0 ∷ later.0, ap (λ call. call ∷ calls_of history) here.1 ∙ ap (λ calls. merge_of k lines here.0 ∷ calls) later.1)

  abbrev has_number : ℕ → ℕ → Bool
  has_number number p = bytes_eq (one_word number) (key_at k lines p)

  merged_are : (number : ℕ) (history : MapHistory) (ps : List ℕ) → calls_of history ≡ map (merge_of k lines) ps
      → merged_for (one_word number) history ≡ map (node_at k lines) (filter (has_number number) ps)
  merged_are number history ps calls =
      sym (flat_map-map (merged_by (one_word number)) (λ e. e.call) history)
      ∙ (ap (flat_map (merged_by (one_word number))) calls
      ∙ (flat_map-map (merged_by (one_word number)) (merge_of k lines) ps
      ∙ flat_map-filter (has_number number) (node_at k lines) ps))

  -- ---- the lines of a key
  module _ (long : IsKmerLength k) (good : bad_node k lines ≡ None) (number : ℕ) (small : number < 4 ^ k) where
    line_has_key : (p : ℕ) → IsNode p → has_number number p ≡ true → has_key k (word_of k number) (line_at lines p) ≡ true
    line_has_key p node has =
        let some = eqb-false (length (line_at lines p)) 0 (not-true (eqb (length (line_at lines p)) 0) node.1) in
        let fine = node-good k p lines good node.0 some in
        has_key-is k number (line_at lines p) fine.0 fine.1 (one_same number (number_at k lines p) ((bytes_eq-Decides (one_word number) (key_at k lines p)).0 has))

    is_node_of_key : (p : ℕ) → has_key k (word_of k number) (line_at lines p) ≡ true → (has_node lines p ≡ true) × (has_number number p ≡ true)
    is_node_of_key p has = (
      not_from_false (eqb (length (line_at lines p)) 0)
          (ne_eqb (length (line_at lines p)) 0 (λ empty. both_ways (has_key k (word_of k number) (line_at lines p)) (has_key-empty k number (line_at lines p) long.least empty) has)),
      ⊎_elim (λ (e : number ≡ number_at k lines p). (bytes_eq-Decides (one_word number) (key_at k lines p)).1 (ap one_word e))
          (λ (ne : number ≢ number_at k lines p). absurd (both_ways (has_key k (word_of k number) (line_at lines p)) (has_key-other k number (line_at lines p) small ne) has))
          (cases_eq number (number_at k lines p)),
    )

    -- of the places whose nodes are merged for a key, the least is the first line that has it
    least_is_first : (ps : List ℕ) → IsPermutation (map (merge_of k lines) (nodes lines)) (map (merge_of k lines) ps)
        → least (filter (has_number number) ps) ≡ first_place k lines (word_of k number)
    least_is_first ps same = least-position (has_key k (word_of k number)) lines [] (filter (has_number number) ps) each all
      where
        are_nodes : All IsNode ps
        are_nodes i d low =
            let p : ℕ = get_or ps i d in
            is_node p
            (Contains-mapped (merge_of k lines) merges_apart ps (nodes lines) p
            (IsPermutation-sym (map (merge_of k lines) (nodes lines)) (map (merge_of k lines) ps) same) (Contains-get_or ps i d low))

        each : All (λ p. (p < length lines) × (has_key k (word_of k number) (line_at lines p) ≡ true)) (filter (has_number number) ps)
        each i d low =
            let p : ℕ = get_or (filter (has_number number) ps) i d in
            let node : IsNode p = All-filter (has_number number) IsNode ps are_nodes i d low in
            (node.0, line_has_key p node (filter_passes (has_number number) ps i d low))

        all : (p : ℕ) → p < length lines → has_key k (word_of k number) (line_at lines p) ≡ true → Contains (filter (has_number number) ps) p
        all p low has =
            let is = is_node_of_key p has in
            Contains-filter (has_number number) ps p (Contains-mapped (merge_of k lines) merges_apart (nodes lines) ps p same (nodes_has p (low, is.0))) is.1

pub has_firsts : (k ranks : ℕ) (lines : List (List ℕ)) (history : MapHistory) → IsKmerLength k → bad_node k lines ≡ None → IsStored k lines ranks history
    → HasFirsts k lines (shape_of ranks lines) history
has_firsts k ranks lines history long good stored number small =
    let shape = shape_of ranks lines in
    let made = merged_places k lines shape history stored.at_home in
    let kept = filter (has_number k lines number) made.0 in
    values_are_folds least_of (places shape) (one_word number) [] history (record {
      legal = stored.legal;
      merges = All-weaker (IsAtHome k lines shape) (λ e. Merges e.call) (λ e it. subst Merges (sym it.1) tt) history stored.at_home;
      none_full = stored.none_full;
    })
    ∙ (ap (folded least_of None) (merged_are k lines number history made.0 made.1)
    ∙ (folded-words (λ p. drop 1 (node_at k lines p)) kept
    ∙ ap (option_map (node_at k lines))
    (least_is_first k lines long good number small made.0 (subst (IsPermutation (map (merge_of k lines) (nodes lines))) made.1 stored.each))))
