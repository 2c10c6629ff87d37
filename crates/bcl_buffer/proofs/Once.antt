-- Merges behind merges, whatever they were answered, where their order doesn't matter.
use Rattle.std.proofs.Common.{◌≡◌, List, [], ◌∷◌, ◌++◌, map, sym, ap, ◌∙◌, subst}
use Rattle.std.specs.List.Sorted.{IsPermutation}
use Rattle.std.proofs.lemmas.List.{map-append, append_assoc}
use Rattle.std.proofs.lemmas.List.Sorted.{IsPermutation-refl, IsPermutation-append}
use Rattle.bcl_words.specs.declared.pair.Pair.{Pair}
use Rattle.bcl_event.specs.declared.event.Event.{Event}
use Rattle.bcl_event.specs.declared.map.MapCall.{MapCall}
use Rattle.bcl_event.specs.declared.map.MapReply.{MapReply}
use Rattle.bcl_event.specs.declared.map.MapReply.TheVariants.{Full}
use Rattle.bcl_event.specs.History.{event}
use Rattle.bcl_phase.proofs.Calls.{ran_none, stands_ran, ran_trans}
use Rattle.bcl_map.specs.declared.shape.Shape.{Shape}
use Rattle.bcl_map.specs.Map.{Words, ranks, first_pairs, next, permits}
use Rattle.bcl_map.specs.Calls.{MapView, Stands}
use Rattle.bcl_buffer.specs.Drains.{Merged, StopsAt, merge_pair}
use Rattle.bcl_buffer.specs.Flushes.{MergedOnce}

module _ {K V : Type 0} (key : K → Words) (value : V → Words) (op : Words → Words → Words) (shape : Shape) where
  abbrev calls : List (Event (MapCall Words Words) (MapReply Words)) → List (MapCall Words Words)
  calls es = map (λ e. e.call) es

  same_order : (cs ds : List (MapCall Words Words)) → cs ≡ ds → IsPermutation ds cs
  same_order cs ds e = subst (IsPermutation ds) (sym e) (IsPermutation-refl ds)

  pub once_none : (v : MapView) → MergedOnce key value op shape [] v v
  once_none v = record { events = []; ran = ran_none ranks first_pairs (next op) permits shape v; once = IsPermutation-refl [] }

  once_in_order : (u v : MapView) (ps : List (Pair K V)) → Merged key value op shape ps u v → MergedOnce key value op shape ps u v
  once_in_order u v ps m = record { events = m.events; ran = m.ran; once = same_order (calls m.events) (map (merge_pair key value) ps) m.calls }

  once_refused : (u v : MapView) (p : Pair K V) → Stands op shape u v (event u.rank (merge_pair key value p) Full ∷ []) → MergedOnce key value op shape (p ∷ []) u v
  once_refused u v p s = record {
    events = event u.rank (merge_pair key value p) Full ∷ [];
    ran = stands_ran ranks first_pairs (next op) permits shape u v (event u.rank (merge_pair key value p) Full ∷ []) s;
    once = IsPermutation-refl (merge_pair key value p ∷ []);
  }

  once_trans : (u v w : MapView) (ps qs : List (Pair K V)) → MergedOnce key value op shape ps u v → MergedOnce key value op shape qs v w → MergedOnce key value op shape (ps ++ qs) u w
  once_trans u v w ps qs a b = record {
    events = a.events ++ b.events;
    ran = ran_trans ranks first_pairs (next op) permits shape u v w a.events b.events a.ran b.ran;
    once = subst (λ (cs : List (MapCall Words Words)). IsPermutation cs (calls (a.events ++ b.events))) (sym (map-append (merge_pair key value) ps qs))
        (subst (IsPermutation (map (merge_pair key value) ps ++ map (merge_pair key value) qs)) (sym (map-append (λ (e : Event (MapCall Words Words) (MapReply Words)). e.call) a.events b.events))
        (IsPermutation-append (map (merge_pair key value) ps) (calls a.events) (map (merge_pair key value) qs) (calls b.events) a.once b.once));
  }

  -- a drain that stopped
  pub once_stops : (u v w : MapView) (before : List (Pair K V)) (p : Pair K V) (all left : List (Pair K V)) → MergedOnce key value op shape before u v → (s : StopsAt key value op shape p all left v w)
      → MergedOnce key value op shape (before ++ (s.done ++ p ∷ [])) u w
  once_stops u v w before p all left m s = once_trans u v w before (s.done ++ p ∷ []) m
      (once_trans v s.between w s.done (p ∷ []) (once_in_order v s.between s.done s.merged) (once_refused s.between w p s.refused))

  -- the last
  pub once_ends : (u v w : MapView) (before rest all : List (Pair K V)) → MergedOnce key value op shape before u v → Merged key value op shape rest v w → all ≡ before ++ rest → MergedOnce key value op shape all u w
  once_ends u v w before rest all m d e = subst (λ (ps : List (Pair K V)). MergedOnce key value op shape ps u w) (sym e) (once_trans u v w before rest m (once_in_order v w rest d))

pub one_less : {P : Type 0} (p : P) (all before done now left : List P) → all ≡ before ++ now → now ≡ done ++ p ∷ left → all ≡ (before ++ (done ++ p ∷ [])) ++ left
one_less {P} p all before done now left e f =
    e ∙ (ap (λ (l : List P). before ++ l) (f ∙ sym (append_assoc done (p ∷ []) left)) ∙ sym (append_assoc before (done ++ p ∷ []) left))
