-- The book of contigs, from what the home knows at the end of the phase of finds.
use Rattle.std.proofs.Common.{◌≡◌, ◌∙◌, ℕ, zero, suc, ◌+◌, ◌<◌, List, [], ◌∷◌, ◌++◌, length, map, drop, Option, None, Some, sym, ap, subst, arith}
use Rattle.std.specs.Prelude.{All}
use Rattle.std.specs.List.{flat_map, range_with_len}
use Rattle.std.proofs.Math.Seq.{drop-append_seam}
use Rattle.std.proofs.lemmas.List.{append_cancel_left}
use Rattle.std.proofs.lemmas.List.Elements.{All-nil, All-cons, All-head, All-tail, All-append, All-weaker, filter-append}
use Rattle.bcl_merge.specs.LeastWords.{least_of}
use Rattle.bcl_event.specs.declared.map.MapCall.TheVariants.{Find, Insert, Merge, Add}
use Rattle.bcl_event.specs.declared.map.MapReply.TheVariants.{Full}
use Rattle.bcl_event.specs.History.{of, IsLegal}
use Rattle.bcl_event.specs.Map.{Pairs, value_at, map_step, found}
use Rattle.bcl_event.specs.Merged.{MapHistory, NoneFull}
use Rattle.bcl_phase.specs.Phases.{Ended}
use Rattle.bcl_phase.specs.Rule.{IsPermitted}
use Rattle.bcl_map.specs.declared.shape.Shape.{Shape}
use Rattle.bcl_map.specs.Map.{Words, places, finding, ranks as ranks_of, first_pairs, next, permits}
use Rattle.bcl_map.specs.Calls.{MapView}
use Rattle.kmer_paths.specs.Contigs.{is_start, starts}
use Rattle.kmer_walk.specs.Nodes.{nodes_of, starts_of}
use Rattle.kmer_walk.specs.Book.{Call, calls_of, IsFind, shape_of, find_of, walk_finds, IsRun, IsStored, ContigBook}
use Rattle.kmer_walk.specs.Finds.{ChecksAndWalks}
use Rattle.kmer_walk.proofs.AllBlocks.{blocks_are_whole}
use Rattle.kmer_walk.proofs.Finding.{permits_find}

-- a find is never answered that there is no room
find_has_room : (capacity : ℕ) (op : Words → Words → Words) (pairs : Pairs) (call : Call) → IsFind call → (map_step capacity op pairs call).0 ≡ Full → ⊥
find_has_room capacity op pairs (Find key) f e = no (value_at key pairs) e
  where
    no : (value : Option Words) → found value ≡ Full → ⊥
    no None e = cc (e)
    no (Some v) e = cc (e)
find_has_room capacity op pairs (Insert key value) f e = absurd f
find_has_room capacity op pairs (Merge key value) f e = absurd f
find_has_room capacity op pairs (Add key n) f e = absurd f

finds_have_room : (capacity : ℕ) (op : Words → Words → Words) (pairs : Pairs) (es : MapHistory) → All (λ e. IsFind e.call) es → IsLegal (map_step capacity op) pairs es → NoneFull es
finds_have_room capacity op pairs [] finds legal = All-nil (λ e. e.reply ≡ Full → ⊥)
finds_have_room capacity op pairs (e ∷ es) finds legal =
    All-cons (λ e. e.reply ≡ Full → ⊥) e es
    (λ full. find_has_room capacity op pairs e.call (All-head (λ e. IsFind e.call) e es finds) (sym legal.0 ∙ full))
    (finds_have_room capacity op (map_step capacity op pairs e.call).1 es (All-tail (λ e. IsFind e.call) e es finds) legal.1)

finds_behind : (capacity : ℕ) (op : Words → Words → Words) (pairs : Pairs) (before es : MapHistory) → All (λ e. IsFind e.call) es → IsLegal (map_step capacity op) pairs (before ++ es) → NoneFull es
finds_behind capacity op pairs [] es finds legal = finds_have_room capacity op pairs es finds legal
finds_behind capacity op pairs (x ∷ before) es finds legal = finds_behind capacity op (map_step capacity op pairs x.call).1 before es finds legal.1

-- what holds of each rank's items holds of all
all_of_ranks : {X : Type 0} (P : X → Type 0) (has : ℕ → List X) (first n : ℕ) → ((r : ℕ) → r < first + n → All P (has r)) → All P (flat_map has (range_with_len first n))
all_of_ranks P has first zero each = All-nil P
all_of_ranks P has first (suc n) each = All-append P (has first) (flat_map has (range_with_len (first + 1) n)) (each first (omega arith)) (all_of_ranks P has (first + 1) n (λ r low. each r (omega arith)))

module _ (k : ℕ) (lines : List (List ℕ)) (ranks : ℕ) (some : 0 < ranks) (before history : MapHistory) (stored : IsStored k lines ranks before)
    (ended : Ended ranks_of first_pairs (next least_of) permits (shape_of ranks lines) finding before history)
    (own : (r : ℕ) → r < ranks → (old : MapView) × (new : MapView) × (old.mine ≡ of r before) × ChecksAndWalks k lines (shape_of ranks lines) r ranks old new × (of r history ≡ new.mine)) where
  abbrev shape : Shape
  shape = shape_of ranks lines

  abbrev finds : MapHistory
  finds = ended.late

  abbrev checks_of : ℕ → List Call
  checks_of rank = map (find_of k lines) (nodes_of rank ranks lines)

  -- what a rank has found behind its checks
  abbrev behind : ℕ → List Call
  behind rank = drop (length (checks_of rank)) (calls_of (of rank finds))

  all_finds : All (λ e. IsFind e.call) finds
  all_finds = All-weaker (IsPermitted ranks_of permits shape finding) (λ e. IsFind e.call) (λ e p. permits_find shape e.rank e.call p.0) finds ended.permitted

  -- the finds of a rank are the events of its pass
  calls_are : (r : ℕ) (low : r < ranks) → calls_of (of r finds) ≡ checks_of r ++ (own r low).3.behind
  calls_are r low =
      let it = own r low in
      let makes = it.3.makes in
      let all : of r before ++ of r finds ≡ of r before ++ makes.events =
      sym (filter-append _ before finds) ∙ (ap (of r) (sym ended.since) ∙ (it.4 ∙ (makes.ran.mine ∙ ap (λ (l : MapHistory). l ++ makes.events) it.2))) in
      ap calls_of (append_cancel_left (of r before) (of r finds) makes.events all) ∙ makes.calls_are

  behind_is : (r : ℕ) (low : r < ranks) → behind r ≡ (own r low).3.behind
  behind_is r low = ap (drop (length (checks_of r))) (calls_are r low) ∙ drop-append_seam (checks_of r) (own r low).3.behind

  checks_first : (r : ℕ) → r < ranks → calls_of (of r finds) ≡ checks_of r ++ behind r
  checks_first r low = calls_are r low ∙ ap (λ (l : List Call). checks_of r ++ l) (sym (behind_is r low))

  abbrev Walks : ℕ → Type 0
  Walks start = (rank : ℕ) × (rank < ranks) × IsRun (walk_finds k lines start) (behind rank)

  all_walk : All Walks (starts k lines)
  all_walk =
      subst (All Walks) (blocks_are_whole (is_start k lines) ranks some lines)
      (all_of_ranks Walks (λ r. starts_of k r ranks lines) 0 ranks (λ r low.
      let below : r < ranks = omega arith in
      All-weaker (λ start. IsRun (walk_finds k lines start) (own r below).3.behind) Walks
      (λ start run. (r, below, subst (IsRun (walk_finds k lines start)) (sym (behind_is r below)) run)) (starts_of k r ranks lines) (own r below).3.walks))

  pub book_of_phase : ContigBook k lines ranks history
  book_of_phase = record {
    legal = ended.legal;
    ranked = subst (All (λ e. e.rank < ranks)) (sym ended.since)
        (All-append (λ e. e.rank < ranks) before finds stored.ranked (All-weaker (IsPermitted ranks_of permits shape finding) (λ e. e.rank < ranks) (λ e p. p.1) finds ended.permitted));
    none_full = subst NoneFull (sym ended.since)
        (All-append (λ e. e.reply ≡ Full → ⊥) before finds stored.none_full
        (finds_behind (places shape) least_of [] before finds all_finds (subst (IsLegal (map_step (places shape) least_of) []) ended.since ended.legal)));
    merges = before;
    finds = finds;
    parts = ended.since;
    stored = stored;
    all_finds = all_finds;
    behind = behind;
    checks = checks_first;
    walks = all_walk;
  }
