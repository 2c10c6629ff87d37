-- A map with room.
-- Where it has room for all keys that a history may add, no reply is Full.
use Rattle.std.proofs.Common.{◌≡◌, ◌≢◌, ℕ, ◌+◌, ◌≤◌, List, [], ◌∷◌, Bool, true, false, cond, eqb, length, refl, sym, ◌∙◌, subst, arith, Some, None, Option}
use Rattle.std.specs.Prelude.{IsSome}
use Rattle.std.proofs.lemmas.Bool.{eqb-true}
use Rattle.std.proofs.lemmas.List.Elements.{All-nil, All-cons}
use Rattle.std.proofs.lemmas.List.Sums.{sum_by-cons}
use Rattle.bcl_event.specs.declared.map.MapCall.{MapCall}
use Rattle.bcl_event.specs.declared.map.MapCall.TheVariants.{Find, Insert, Merge, Add}
use Rattle.bcl_event.specs.declared.map.MapReply.{MapReply}
use Rattle.bcl_event.specs.declared.map.MapReply.TheVariants.{New, Full}
use Rattle.bcl_event.specs.Numbers.{added}
use Rattle.bcl_event.specs.History.{IsLegal}
use Rattle.bcl_event.specs.Map.{Pairs, value_at, with_pair, stored, found, sum_stored, map_step}
use Rattle.bcl_event.specs.Merged.{MapHistory, may_add, most_keys, NoneFull}
use Rattle.bcl_event.proofs.Values.{pair_stores, value_stores}

-- what one call does to the number of keys; where there is room for what it may add, it isn't answered Full
record Room (capacity : ℕ) (pairs : Pairs) (more : ℕ) (answer : MapReply (List ℕ) × Pairs) : Type 0 where
  grows : length answer.1 ≤ length pairs + more
  fits : length pairs + more ≤ capacity → answer.0 ≢ Full

module _ (capacity : ℕ) where
  room_stored : (key value : List ℕ) (merged : List ℕ → List ℕ) (pairs : Pairs) (o : Option (List ℕ)) → value_at key pairs ≡ o → Room capacity pairs 1 (stored capacity key value merged pairs o)
  room_stored key value merged pairs None e = by (eqb (length pairs) capacity) refl
    where
      by : (b : Bool) → eqb (length pairs) capacity ≡ b → Room capacity pairs 1 (cond b (Full, pairs) (New, with_pair key value pairs))
      by true is = record { grows = omega arith; fits = λ h. absurd (let e = eqb-true (length pairs) capacity is in omega arith) }
      by false is = record { grows = let n = (pair_stores key value pairs e).keys in omega arith; fits = λ h e. cc }
  room_stored key value merged pairs (Some old) e = record {
    grows = let n = (value_stores key (merged old) pairs (subst IsSome (sym e) refl)).keys in omega arith;
    fits = λ h e. cc;
  }

  room_sum : (key : List ℕ) (n : ℕ) (pairs : Pairs) (o : Option (List ℕ)) → value_at key pairs ≡ o → Room capacity pairs 0 (sum_stored key n pairs o)
  room_sum key n pairs None e = record { grows = omega arith; fits = λ h e. cc }
  room_sum key n pairs (Some old) e = record {
    grows = let m = (value_stores key (added n old) pairs (subst IsSome (sym e) refl)).keys in omega arith;
    fits = λ h e. cc;
  }

  room_found : (pairs : Pairs) (o : Option (List ℕ)) → Room capacity pairs 0 (found o, pairs)
  room_found pairs None = record { grows = omega arith; fits = λ h e. cc }
  room_found pairs (Some value) = record { grows = omega arith; fits = λ h e. cc }

  module _ (op : List ℕ → List ℕ → List ℕ) where
    room : (pairs : Pairs) (call : MapCall (List ℕ) (List ℕ)) → Room capacity pairs (may_add call) (map_step capacity op pairs call)
    room pairs (Find key) = room_found pairs (value_at key pairs)
    room pairs (Insert key value) = room_stored key value (λ old. value) pairs (value_at key pairs) refl
    room pairs (Merge key value) = room_stored key value (λ old. op old value) pairs (value_at key pairs) refl
    room pairs (Add key n) = room_sum key n pairs (value_at key pairs) refl

    pub none_full : (pairs : Pairs) (history : MapHistory) → IsLegal (map_step capacity op) pairs history → length pairs + most_keys history ≤ capacity → NoneFull history
    none_full pairs [] legal few = All-nil (λ e. e.reply ≢ Full)
    none_full pairs (e ∷ history) legal few =
        let r = room pairs e.call in
        let more : most_keys (e ∷ history) ≡ may_add e.call + most_keys history = sum_by-cons (λ e. may_add e.call) e history in
        let grows : length (map_step capacity op pairs e.call).1 ≤ length pairs + may_add e.call = r.grows in
        All-cons (λ e. e.reply ≢ Full) e history
        (λ full. r.fits (omega arith) (sym legal.0 ∙ full))
        (none_full (map_step capacity op pairs e.call).1 history legal.1 (omega arith))
