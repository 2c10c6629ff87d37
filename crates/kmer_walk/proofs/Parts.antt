-- Checks of one part of the lines after another, with the starts that are noted.
use Rattle.std.proofs.Common.{◌≡◌, ◌∙◌, ℕ, ◌≤◌, List, ◌++◌, map, append_assoc, sym, ap, subst}
use Rattle.std.proofs.lemmas.List.{map-append, append-nil}
use Rattle.bcl_map.specs.declared.shape.Shape.{Shape}
use Rattle.bcl_map.specs.Calls.{MapView}
use Rattle.kmer_paths.specs.Contigs.{is_start}
use Rattle.kmer_walk.specs.Nodes.{has_node, nodes_from, starts_from}
use Rattle.kmer_walk.specs.Book.{Call, find_of}
use Rattle.kmer_walk.specs.Finds.{Makes}
use Rattle.kmer_walk.proofs.Places.{places_none, places_split}
use Rattle.kmer_walk.proofs.Makings.{makes_none, makes_trans}

module _ (k : ℕ) (lines : List (List ℕ)) where
  module _ (shape : Shape) where
    pub checks_none : (first end : ℕ) → end ≤ first → (v : MapView) → Makes shape (map (find_of k lines) (nodes_from lines first end)) v v
    checks_none first end past v = subst (λ (l : List ℕ). Makes shape (map (find_of k lines) l) v v) (sym (places_none (has_node lines) first end past)) (makes_none shape v)

    pub checks_more : (first middle end : ℕ) → first ≤ middle → middle ≤ end → (u v w : MapView)
        → Makes shape (map (find_of k lines) (nodes_from lines first middle)) u v → Makes shape (map (find_of k lines) (nodes_from lines middle end)) v w → Makes shape (map (find_of k lines) (nodes_from lines first end)) u w
    checks_more first middle end low high u v w front back =
        subst (λ (l : List Call). Makes shape l u w)
        (sym (ap (map (find_of k lines)) (places_split (has_node lines) first middle end low high) ∙ map-append (find_of k lines) (nodes_from lines first middle) (nodes_from lines middle end)))
        (makes_trans shape (map (find_of k lines) (nodes_from lines first middle)) (map (find_of k lines) (nodes_from lines middle end)) u v w front back)

  pub starts_more : (first middle end : ℕ) → first ≤ middle → middle ≤ end → (old now new : List ℕ) → now ≡ old ++ starts_from k lines first middle → new ≡ now ++ starts_from k lines middle end → new ≡ old ++ starts_from k lines first end
  starts_more first middle end low high old now new front back =
      back ∙ (ap (λ (l : List ℕ). l ++ starts_from k lines middle end) front
      ∙ (append_assoc old (starts_from k lines first middle) (starts_from k lines middle end)
      ∙ ap (λ (l : List ℕ). old ++ l) (sym (places_split (is_start k lines) first middle end low high))))

  pub starts_none : (first end : ℕ) → end ≤ first → (old : List ℕ) → old ≡ old ++ starts_from k lines first end
  starts_none first end past old = sym (ap (λ (l : List ℕ). old ++ l) (places_none (is_start k lines) first end past) ∙ append-nil old)
