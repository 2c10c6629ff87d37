-- Merges behind merges.
use Rattle.std.proofs.Common.{◌≡◌, ◌≢◌, List, [], ◌∷◌, ◌++◌, refl, sym, ap, ap₂, ◌∙◌}
use Rattle.std.proofs.lemmas.List.{map-append, append_assoc}
use Rattle.std.proofs.lemmas.List.Elements.{All-nil, All-cons, All-append}
use Rattle.bcl_words.specs.declared.pair.Pair.{Pair}
use Rattle.bcl_event.specs.declared.event.Event.{Event}
use Rattle.bcl_event.specs.declared.map.MapCall.{MapCall}
use Rattle.bcl_event.specs.declared.map.MapReply.{MapReply}
use Rattle.bcl_event.specs.declared.map.MapReply.TheVariants.{Full}
use Rattle.bcl_event.specs.History.{event}
use Rattle.bcl_phase.specs.Stands.{GoesOn}
use Rattle.bcl_phase.proofs.Calls.{goes_on_trans, ran_none, stands_ran, ran_trans}
use Rattle.bcl_map.specs.declared.inserted.Inserted.{Inserted}
use Rattle.bcl_map.specs.declared.inserted.Inserted.TheVariants.{New as was_new, Replaced as was_replaced, Full as was_full}
use Rattle.bcl_map.specs.declared.shape.Shape.{Shape}
use Rattle.bcl_map.specs.Map.{Words, ranks, first_pairs, next, permits}
use Rattle.bcl_map.specs.Calls.{MapView, Stands, IsMine}
use Rattle.bcl_map.specs.Reaches.{inserted}
use Rattle.bcl_buffer.specs.declared.draining.Drained.{Drained}
use Rattle.bcl_buffer.specs.declared.draining.Drained.TheVariants.{All as drained_all, Full as drained_full}
use Rattle.bcl_buffer.specs.Lanes.{Lanes}
use Rattle.bcl_buffer.specs.Drains.{Merged, Drains, merge_pair}

-- there was a bucket for a pair unless the answer is Full
pub had_room : (i : Inserted) → i ≢ was_full → inserted i ≢ Full
had_room was_new other e = cc
had_room was_replaced other e = cc
had_room was_full other e = absurd (other refl)

module _ {K V : Type 0} (key : K → Words) (value : V → Words) (op : Words → Words → Words) (shape : Shape) where
  pub merged_none : (v : MapView) → Merged key value op shape [] v v
  merged_none v = record {
    events = [];
    ran = ran_none ranks first_pairs (next op) permits shape v;
    calls = refl;
    none_full = All-nil (λ (e : Event (MapCall Words Words) (MapReply Words)). e.reply ≢ Full);
  }

  pub merged_one : (u v : MapView) (p : Pair K V) (reply : MapReply Words) → reply ≢ Full → Stands op shape u v (event u.rank (merge_pair key value p) reply ∷ []) → Merged key value op shape (p ∷ []) u v
  merged_one u v p reply room s = let es = event u.rank (merge_pair key value p) reply ∷ [] in record {
    events = es;
    ran = stands_ran ranks first_pairs (next op) permits shape u v es s;
    calls = refl;
    none_full = All-cons (λ (e : Event (MapCall Words Words) (MapReply Words)). e.reply ≢ Full) _ [] room (All-nil _);
  }

  pub merged_trans : (u v w : MapView) (ps qs : List (Pair K V)) → Merged key value op shape ps u v → Merged key value op shape qs v w → Merged key value op shape (ps ++ qs) u w
  merged_trans u v w ps qs a b = record {
    events = a.events ++ b.events;
    ran = ran_trans ranks first_pairs (next op) permits shape u v w a.events b.events a.ran b.ran;
    calls = map-append (λ (e : Event (MapCall Words Words) (MapReply Words)). e.call) a.events b.events ∙ (ap₂ ◌++◌ a.calls b.calls ∙ sym (map-append (merge_pair key value) ps qs));
    none_full = All-append (λ (e : Event (MapCall Words Words) (MapReply Words)). e.reply ≢ Full) a.events b.events a.none_full b.none_full;
  }

  -- the pass goes on, however far the drain came
  pub drains_goes : (old new : Lanes (Pair K V)) (u v : MapView) (drained : Drained K V) → Drains key value op shape old new u v drained → GoesOn u v
  drains_goes old new u v drained_all d = d.0.ran.same
  drains_goes old new u v (drained_full p) d = goes_on_trans u d.0.between v d.0.merged.ran.same d.0.refused.same

-- more of the pairs were taken from the front
pub more_taken : {P : Type 0} (all done left more rest : List P) → all ≡ done ++ left → left ≡ more ++ rest → all ≡ (done ++ more) ++ rest
more_taken {P} all done left more rest e f = e ∙ (ap (λ (l : List P). done ++ l) f ∙ sym (append_assoc done more rest))

pub mine_kept : (u v : MapView) (k : Words) → GoesOn u v → IsMine u k → IsMine v k
mine_kept u v k on m = record { shape = m.shape; of = on.same_key ∙ m.of; own = m.own ∙ sym on.same_rank }
