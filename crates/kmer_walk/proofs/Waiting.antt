-- Merges that wait in a buffer, once nodes have gone into it.
use Rattle.std.proofs.Common.{◌≡◌, ◌≢◌, ℕ, List, [], ◌∷◌, ◌++◌, Bool, true, false, cond, eqb, map, refl, sym, ap, ◌∙◌, subst, ⊎_elim}
use Rattle.std.specs.List.Sorted.{IsPermutation}
use Rattle.std.proofs.lemmas.Bool.{cases_eq, eq-eqb, ne_eqb}
use Rattle.std.proofs.lemmas.List.{map-append, append_assoc, append-nil}
use Rattle.std.proofs.lemmas.List.Elements.{filter-append}
use Rattle.std.proofs.lemmas.List.Sorted.{IsPermutation-refl, IsPermutation-trans, IsPermutation-append_left}
use Rattle.bcl_words.specs.declared.pair.Pair.{Pair}
use Rattle.bcl_words.specs.Numbers.{one_word}
use Rattle.bcl_segment.specs.declared.layout.Layout.{Layout}
use Rattle.bcl_event.specs.declared.map.MapCall.TheVariants.{Merge}
use Rattle.bcl_buffer.specs.declared.buffer.State.TheVariants.{Filling}
use Rattle.bcl_buffer.specs.Lanes.{Lanes, lane, home_in}
use Rattle.bcl_buffer.specs.Drains.{merge_pair}
use Rattle.kmer_text.specs.declared.node.Node.{Node}
use Rattle.kmer_walk.specs.Nodes.{number_at, key_at, node_at}
use Rattle.kmer_walk.specs.Book.{Call, merge_of}
use Rattle.kmer_walk.specs.Fills.{words_of_node, waiting, merges_for, Fills}

abbrev Nodes : Type 0
Nodes = Lanes (Pair ℕ Node)

-- lists that are equal
same_order : (xs ys : List Call) → xs ≡ ys → IsPermutation xs ys
same_order xs ys e = subst (IsPermutation xs) e (IsPermutation-refl xs)

module _ (k : ℕ) (lines : List (List ℕ)) where
  merges-append : (shape : Layout) (rank : ℕ) (xs ys : List ℕ) → merges_for k lines shape rank (xs ++ ys) ≡ merges_for k lines shape rank xs ++ merges_for k lines shape rank ys
  merges-append shape rank xs ys = ap (map (merge_of k lines)) (filter-append _ xs ys) ∙ map-append (merge_of k lines) _ _

  pub fills_none : (a : Nodes) → a.state ≡ Filling → Fills k lines [] a a
  fills_none a filling = record { rank = refl; shape = refl; filling = filling; lanes = λ rank. same_order (waiting a rank ++ []) (waiting a rank) (append-nil (waiting a rank)) }

  pub fills_trans : (xs ys : List ℕ) (a b c : Nodes) → Fills k lines xs a b → Fills k lines ys b c → Fills k lines (xs ++ ys) a c
  fills_trans xs ys a b c p q = record {
    rank = q.rank ∙ p.rank;
    shape = q.shape ∙ p.shape;
    filling = q.filling;
    lanes = λ rank.
        let more = merges_for k lines a.shape rank ys in
        let front = waiting a rank ++ merges_for k lines a.shape rank xs in
        let all : waiting a rank ++ merges_for k lines a.shape rank (xs ++ ys) ≡ front ++ more =
        ap (λ (l : List Call). waiting a rank ++ l) (merges-append a.shape rank xs ys) ∙ sym (append_assoc (waiting a rank) (merges_for k lines a.shape rank xs) more) in
        subst (λ (l : List Call). IsPermutation l (waiting c rank)) (sym all)
        (IsPermutation-trans (front ++ more) (waiting b rank ++ more) (waiting c rank)
        (IsPermutation-append_left more front (waiting b rank) (p.lanes rank))
        (subst (λ (s : Layout). IsPermutation (waiting b rank ++ merges_for k lines s rank ys) (waiting c rank)) p.shape (q.lanes rank)));
  }

  -- the node at a place has gone into the lane of its home
  module _ (place key : ℕ) (node : Node) (old new : Nodes) (is_key : key ≡ number_at k lines place) (is_node : words_of_node node ≡ node_at k lines place) where
    abbrev home : ℕ
    home = home_in 1 old.shape (one_word key)

    merge_is : merge_pair one_word words_of_node (record { a = key; b = node }) ≡ merge_of k lines place
    merge_is i = Merge (one_word (is_key i)) (is_node i)

    home_is : home_in 1 old.shape (key_at k lines place) ≡ home
    home_is i = home_in 1 old.shape (one_word (sym is_key i))

    module _ (here : lane new home ≡ lane old home ++ record { a = key; b = node } ∷ []) (others : (rank : ℕ) → rank ≢ home → lane new rank ≡ lane old rank) where
      merges_are : (rank : ℕ) → waiting old rank ++ merges_for k lines old.shape rank (place ∷ []) ≡ waiting new rank
      merges_are rank = ⊎_elim at_home elsewhere (cases_eq home rank)
        where
          tested : (b : Bool) → eqb home rank ≡ b → merges_for k lines old.shape rank (place ∷ []) ≡ map (merge_of k lines) (cond b (place ∷ []) [])
          tested b is = ap (λ t. map (merge_of k lines) (cond t (place ∷ []) [])) (ap (λ (h : ℕ). eqb h rank) home_is ∙ is)

          at_home : home ≡ rank → waiting old rank ++ merges_for k lines old.shape rank (place ∷ []) ≡ waiting new rank
          at_home is =
              ap (λ (l : List Call). waiting old rank ++ l) (tested true (eq-eqb home rank is))
              ∙ (ap (λ (c : Call). waiting old rank ++ c ∷ []) (sym merge_is)
              ∙ (sym (map-append (merge_pair one_word words_of_node) (lane old rank) (record { a = key; b = node } ∷ []))
              ∙ ap (map (merge_pair one_word words_of_node)) (sym (subst (λ (r : ℕ). lane new r ≡ lane old r ++ record { a = key; b = node } ∷ []) is here))))

          elsewhere : home ≢ rank → waiting old rank ++ merges_for k lines old.shape rank (place ∷ []) ≡ waiting new rank
          elsewhere ne =
              ap (λ (l : List Call). waiting old rank ++ l) (tested false (ne_eqb home rank ne))
              ∙ (append-nil (waiting old rank)
              ∙ ap (map (merge_pair one_word words_of_node)) (sym (others rank (λ e. ne (sym e)))))

      pub fills_one : (new.rank ≡ old.rank) × (new.shape ≡ old.shape) × (new.state ≡ Filling) → Fills k lines (place ∷ []) old new
      fills_one same = record {
        rank = same.0;
        shape = same.1;
        filling = same.2;
        lanes = λ rank. same_order (waiting old rank ++ merges_for k lines old.shape rank (place ∷ [])) (waiting new rank) (merges_are rank);
      }
