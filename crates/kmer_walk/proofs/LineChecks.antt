-- The check of a line against the node of the first line of its key.
use Rattle.std.proofs.Common.{◌≡◌, ◌≢◌, ◌∙◌, ℕ, ◌+◌, ◌^◌, ◌<◌, Bool, eqb, not, true, false, List, [], ◌∷◌, length, map, take, Option, None, Some, unwrap_or, arith, refl, sym, ap, subst, length-take-le, eqb-true, eq-eqb}
use Rattle.std.specs.List.{position}
use Rattle.std.specs.Option.{option_map, option_map_or}
use Rattle.std.proofs.lemmas.Bool.{and_parts, and_from, cond-true, eqb-false, false_from_ne_true, not-true, not-false}
use Rattle.std.proofs.lemmas.Option.{none-some, same_Some}
use Rattle.std.proofs.lemmas.Slice.Eq.{bytes_eq-Decides}
use Rattle.bcl_words.specs.Numbers.{one_word}
use Rattle.bcl_event.specs.declared.map.MapCall.TheVariants.{Find}
use Rattle.bcl_map.specs.declared.shape.Shape.{Shape}
use Rattle.bcl_map.specs.Calls.{MapView}
use Rattle.kmer_text.specs.declared.node.Node.{Node}
use Rattle.kmer_text.specs.Kmers.{digit_of, number_of, word_of}
use Rattle.kmer_text.specs.NodeLaws.{fields_same}
use Rattle.kmer_text.specs.Nodes.{bad_node, code_of, line_at}
use Rattle.kmer_text.proofs.GoodNodes.{node-good}
use Rattle.kmer_text.proofs.Numbers.{number_of-lt, word_of-number_of}
use Rattle.kmer_paths.specs.Keys.{has_key, first_place, agree, conflicts}
use Rattle.kmer_paths.specs.Walks.{backward, forward}
use Rattle.kmer_paths.specs.Contigs.{is_start}
use Rattle.kmer_paths.proofs.Conflicts.{conflicts-empty, conflicts-is}
use Rattle.kmer_paths.proofs.NextKeys.{end-from_code}
use Rattle.kmer_paths.proofs.Places.{position-one, position-front}
use Rattle.kmer_walk.specs.declared.checker.Ready.{Ready}
use Rattle.kmer_walk.specs.Nodes.{has_node, node_at, nodes_from, starts_from}
use Rattle.kmer_walk.specs.Book.{Call, find_of}
use Rattle.kmer_walk.specs.Fills.{words_of_node}
use Rattle.kmer_walk.specs.Finds.{IsFirstOf, Makes}
use Rattle.kmer_walk.specs.Checks.{IsReady}
use Rattle.kmer_walk.proofs.Makings.{makes_none}
use Rattle.kmer_walk.proofs.Places.{place_is, place_not}
use Rattle.kmer_walk.proofs.Trails.{code-most, no_first, start-some}

-- the words of a node tell its line and its codes
node_fields : (k place : ℕ) (ls : List (List ℕ)) (node : Node) → words_of_node node ≡ node_at k ls place
    → (node.line ≡ place + 1) × ((node.back ≡ code_of (backward k (line_at ls place))) × (node.forward ≡ code_of (forward k (line_at ls place))))
node_fields k place ls node same =
    let line = line_at ls place in
    fields_same node.line node.back node.forward (place + 1) (code_of (backward k line)) (code_of (forward k line)) node.codes.1 (code-most (forward k line)) same

-- ---- an empty line
module _ (k place : ℕ) (ls : List (List ℕ)) (none : has_node ls place ≡ false) where
  empty : length (line_at ls place) ≡ 0
  empty = eqb-true (length (line_at ls place)) 0 (not-false (eqb (length (line_at ls place)) 0) none)

  pub empty_consistent : conflicts k ls (line_at ls place) ≡ false
  empty_consistent = conflicts-empty k ls (line_at ls place) empty

  pub empty_makes : (shape : Shape) (v : MapView) → Makes shape (map (find_of k ls) (nodes_from ls place (place + 1))) v v
  empty_makes shape v = subst (λ (places : List ℕ). Makes shape (map (find_of k ls) places) v v) (sym (place_not (has_node ls) place none)) (makes_none shape v)

  pub empty_starts : starts_from k ls place (place + 1) ≡ []
  empty_starts = place_not (is_start k ls) place (false_from_ne_true (is_start k ls place) (λ start. start-some k place ls start empty))

-- ---- a line that has a node
module _ (k place : ℕ) (ls : List (List ℕ)) (shape : Shape) (good : bad_node k ls ≡ None) (here : place < length ls) (it : Ready) (ready : IsReady k ls shape place (Some it)) where
  abbrev line : List ℕ
  line = line_at ls place

  some : length line ≢ 0
  some = eqb-false (length line) 0 (not-true (eqb (length line) 0) ready.0)

  width : length (take k line) ≡ k
  width = let node = node-good k place ls good here some in length-take-le k line (omega (arith, node.0))

  pub key_low : it.key < 4 ^ k
  key_low = subst (λ (n : ℕ). it.key < 4 ^ n) width (subst (λ (n : ℕ). n < 4 ^ length (take k line)) (sym ready.1) (number_of-lt (take k line)))

  word_is : word_of k it.key ≡ take k line
  word_is =
      let node = node-good k place ls good here some in
      ap (word_of k) ready.1 ∙ (ap (λ (n : ℕ). word_of n (number_of (take k line))) (sym width) ∙ word_of-number_of (take k line) node.1)

  -- the line itself has its key, so there is a first one
  abbrev first : ℕ
  first = unwrap_or (position (has_key k (take k line)) (take place ls)) place

  first_is : first_place k ls (take k line) ≡ Some first
  first_is =
      let passes = has_key k (take k line) in
      position-front passes ls (place + 1) first (position-one passes ls place here ((bytes_eq-Decides (take k line) (take k line)).1 refl))

  first_found : first_place k ls (word_of k it.key) ≡ Some first
  first_found = ap (first_place k ls) word_is ∙ first_is

  pub not_none : IsFirstOf k ls it.key None → ⊥
  not_none is = none-some first (sym (no_first k it.key ls is) ∙ first_found)

  pub one_find : (old new : MapView) → Makes shape (Find (one_word it.key) ∷ []) old new → Makes shape (map (find_of k ls) (nodes_from ls place (place + 1))) old new
  one_find old new makes =
      let call : find_of k ls place ≡ Find (one_word it.key) = ap (λ (n : ℕ). Find (one_word n)) (sym ready.1) in
      let calls : map (find_of k ls) (nodes_from ls place (place + 1)) ≡ Find (one_word it.key) ∷ [] =
      ap (map (find_of k ls)) (place_is (has_node ls) place ready.0) ∙ ap (λ (c : Call). c ∷ []) call in
      subst (λ (calls : List Call). Makes shape calls old new) (sym calls) makes

  own : (it.node.line ≡ place + 1) × ((it.node.back ≡ code_of (backward k line)) × (it.node.forward ≡ code_of (forward k line)))
  own = node_fields k place ls it.node ready.2

  pub number_is : it.node.line ≡ place + 1
  number_is = own.0

  module _ (node : Node) (is : IsFirstOf k ls it.key (Some node)) where
    other : (node.line ≡ first + 1) × ((node.back ≡ code_of (backward k (line_at ls first))) × (node.forward ≡ code_of (forward k (line_at ls first))))
    other = node_fields k first ls node (same_Some (words_of_node node) (node_at k ls first) (is ∙ ap (option_map (node_at k ls)) first_found))

    conflicts_are : conflicts k ls line ≡ not (agree k line (line_at ls first))
    conflicts_are = conflicts-is k ls line (Some first) some first_is

    abbrev same_back : Bool
    same_back = eqb (code_of (backward k line)) (code_of (backward k (line_at ls first)))

    abbrev same_forward : Bool
    same_forward = eqb (code_of (forward k line)) (code_of (forward k (line_at ls first)))

    pub agrees : node.back ≡ it.node.back → node.forward ≡ it.node.forward → conflicts k ls line ≡ false
    agrees back forth =
        let both : agree k line (line_at ls first) ≡ true =
        and_from same_back same_forward (eq-eqb (code_of (backward k line)) (code_of (backward k (line_at ls first))) (sym own.1.0 ∙ (sym back ∙ other.1.0)))
        (eq-eqb (code_of (forward k line)) (code_of (forward k (line_at ls first))) (sym own.1.1 ∙ (sym forth ∙ other.1.1))) in
        conflicts_are ∙ ap not both

    pub clashes : (node.back ≡ it.node.back → node.forward ≡ it.node.forward → ⊥) → conflicts k ls line ≡ true
    clashes differ =
        let apart : agree k line (line_at ls first) ≡ false =
        false_from_ne_true (agree k line (line_at ls first)) (λ both.
        let parts = and_parts same_back same_forward both in
        differ (other.1.0 ∙ (sym (eqb-true (code_of (backward k line)) (code_of (backward k (line_at ls first))) parts.0) ∙ sym own.1.0))
        (other.1.1 ∙ (sym (eqb-true (code_of (forward k line)) (code_of (forward k (line_at ls first))) parts.1) ∙ sym own.1.1))) in
        conflicts_are ∙ ap not apart

    abbrev is_first : Bool
    is_first = option_map_or (λ first. eqb first place) (first_place k ls (take k line)) false

    first_test : is_first ≡ eqb first place
    first_test = ap (λ (o : Option ℕ). option_map_or (λ first. eqb first place) o false) first_is

    pub one_start : node.back ≡ it.node.back → node.back ≡ 4 → node.line ≡ it.node.line → starts_from k ls place (place + 1) ≡ place ∷ []
    one_start back end number =
        let at : first ≡ place = omega (arith, number, own.0, other.0) in
        place_is (is_start k ls) place (and_from (eqb (backward k line) 70) is_first (end-from_code (backward k line) (sym own.1.0 ∙ (sym back ∙ end))) (first_test ∙ eq-eqb first place at))

    pub no_start : node.back ≡ it.node.back → (node.back ≡ 4 → node.line ≡ it.node.line → ⊥) → starts_from k ls place (place + 1) ≡ []
    no_start back differ =
        place_not (is_start k ls) place (false_from_ne_true (is_start k ls place) (λ start.
        let parts = and_parts (eqb (backward k line) 70) is_first start in
        let at = eqb-true first place (sym first_test ∙ parts.1) in
        let code : code_of (backward k line) ≡ 4 = cond-true (eqb (backward k line) 70) 4 (digit_of (backward k line)) parts.0 in
        differ (back ∙ (own.1.0 ∙ code)) (omega (arith, at, own.0, other.0))))
