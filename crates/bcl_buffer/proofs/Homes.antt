-- What the home of the end knows where a map was empty, and each rank has merged the items whose home it is.
use Rattle.std.proofs.Common.{◌≡◌, ℕ, ◌<◌, ◌≤◌, List, [], ◌∷◌, get_or, length, map, refl, sym, ◌∙◌, subst, arith}
use Rattle.std.specs.Prelude.{All}
use Rattle.std.specs.List.{sum_by}
use Rattle.std.specs.List.Sorted.{IsPermutation}
use Rattle.std.proofs.lemmas.List.Elements.{All-nil, All-cons, All-head, All-tail, All-weaker, All-map}
use Rattle.std.proofs.lemmas.List.Sums.{sum_by-cons}
use Rattle.std.proofs.lemmas.List.Sorted.{All-permutation}
use Rattle.bcl_event.specs.declared.map.MapCall.{MapCall}
use Rattle.bcl_event.specs.declared.map.MapCall.TheVariants.{Merge}
use Rattle.bcl_event.specs.History.{of, IsLegal}
use Rattle.bcl_event.specs.Map.{map_step}
use Rattle.bcl_event.specs.Merged.{MapHistory, NoneFull, may_add, most_keys}
use Rattle.bcl_event.proofs.Rooms as rooms
use Rattle.bcl_phase.specs.Phases.{Ended}
use Rattle.bcl_phase.specs.Rule.{IsPermitted}
use Rattle.bcl_map.specs.declared.shape.Shape.{Shape}
use Rattle.bcl_map.specs.Map.{Words, places, owning, home, ranks as ranks_of, first_pairs, next, permits}
use Rattle.bcl_map.specs.Room.{shape_for}
use Rattle.bcl_map.proofs.Roomy.{room, home_low}
use Rattle.bcl_buffer.proofs.Dealt.{call_of, those_at, calls_of_all, summed}

pub all_of_map : {X Y : Type 0} (P : Y → Type 0) (f : X → Y) (xs : List X) → All P (map f xs) → All (λ x. P (f x)) xs
all_of_map P f [] all = All-nil (λ x. P (f x))
all_of_map P f (x ∷ xs) all = All-cons (λ y. P (f y)) x xs (All-head P (f x) (map f xs) all) (all_of_map P f xs (All-tail P (f x) (map f xs) all))

-- items with the words of a key and of a value, and a map with room for so many pairs
module _ {X : Type 0} (key value : X → Words) (op : Words → Words → Words) (width ranks pairs : ℕ) where
  abbrev pub shape : Shape
  shape = shape_for width ranks pairs

  abbrev pub home_of : X → ℕ
  home_of x = home shape (key x)

  abbrev pub merge_of : X → MapCall Words Words
  merge_of x = Merge (key x) (value x)

  -- the merges of these items, each once and by the rank of its key's home, and none of them full
  pub record MergedAtHome (items : List X) (history : MapHistory) : Type 0 where
    pub legal : IsLegal (map_step (places shape) op) [] history
    pub ranked : All (λ e. e.rank < ranks) history
    pub none_full : NoneFull history
    pub each : IsPermutation (map merge_of items) (map call_of history)
    pub at_home : All (λ e. (x : X) × (e.call ≡ merge_of x) × (home_of x ≡ e.rank)) history

  module _ (some : 0 < ranks) (items : List X) (few : length items ≤ pairs) (history : MapHistory) (ended : Ended ranks_of first_pairs (next op) permits shape owning [] history)
      (own : (r : ℕ) → r < ranks → IsPermutation (map merge_of (those_at home_of r items)) (map call_of (of r history))) where
    permitted : All (IsPermitted ranks_of permits shape owning) history
    permitted = subst (All (IsPermitted ranks_of permits shape owning)) (sym ended.since) ended.permitted

    ranked : All (λ e. e.rank < ranks) history
    ranked = All-weaker (IsPermitted ranks_of permits shape owning) (λ e. e.rank < ranks) (λ e may. may.1) history permitted

    merges : IsPermutation (map merge_of items) (map call_of history)
    merges = calls_of_all home_of merge_of ranks (λ x. home_low width ranks pairs some (key x)) items history ranked own

    abbrev IsMerge : MapCall Words Words → Type 0
    IsMerge call = (x : X) × (call ≡ merge_of x)

    are_merges : All (λ e. IsMerge e.call) history
    are_merges = all_of_map IsMerge call_of history (All-permutation IsMerge (map merge_of items) (map call_of history) merges (All-map IsMerge merge_of items (λ i d low. (_, refl))))

    -- a key for each item at most
    keys_are_few : most_keys history ≡ length items
    keys_are_few = summed merge_of items history merges may_add ∙ ones items
      where
        ones : (xs : List X) → sum_by (λ x. may_add (merge_of x)) xs ≡ length xs
        ones [] = refl
        ones (x ∷ xs) = sum_by-cons (λ x. may_add (merge_of x)) x xs ∙ (let e = ones xs in omega arith)

    pub merged_at_home : MergedAtHome items history
    merged_at_home = record {
      legal = ended.legal;
      ranked = ranked;
      none_full = rooms.none_full (places shape) op [] history ended.legal (let keys = keys_are_few in let two = room width ranks pairs some in omega arith);
      each = merges;
      at_home = λ i e low. let is = are_merges i e low in let may = permitted i e low in (is.0, is.1, subst (permits shape owning (get_or history i e).rank) is.1 may.0);
    }
