-- How many keys a history has: they never go, and in a legal history each New is one key more.
use Rattle.std.proofs.Common.{◌≡◌, ℕ, ◌+◌, ◌≤◌, [], ◌∷◌, ◌++◌, length, refl, sym, ap, ◌∙◌, subst, arith, Some, None, Option, eqb, cond, Bool, true, false, if◌then◌else◌}
use Rattle.std.specs.Prelude.{IsSome, ◌==◌}
use mathlib.Core.List.{IsPrefix, cons-ne-nil}
use Rattle.bcl_map.specs.declared.shape.Shape.{Shape}
use Rattle.bcl_event.specs.declared.event.Event.{Event}
use Rattle.bcl_event.specs.History.{of, state_after, IsLegal}
use Rattle.bcl_event.specs.declared.map.MapCall.{MapCall}
use Rattle.bcl_event.specs.declared.map.MapCall.TheVariants.{Find, Insert, Merge, Add}
use Rattle.bcl_event.specs.declared.map.MapReply.{MapReply}
use Rattle.bcl_event.specs.declared.map.MapReply.TheVariants.{New, Full}
use Rattle.bcl_event.specs.Map.{Pairs, value_at, found, with_pair, stored, sum_stored}
use Rattle.bcl_event.specs.Numbers.{added}
use Rattle.bcl_event.proofs.Values.{pair_stores, value_stores}
use Rattle.bcl_phase.proofs.Prefixes.{after-append}
use Rattle.bcl_map.specs.Map.{places, Words, first_pairs, next}
use Rattle.bcl_map.specs.Costs.{Events, is_new, others_new, keys}

-- an event of another rank, behind which a rank has none
pub other_event : (r : ℕ) (e : Event (MapCall Words Words) (MapReply Words)) (es : Events) → of r (e ∷ es) ≡ [] → (others_new r (e ∷ es) ≡ is_new e.reply + others_new r es) × (of r es ≡ [])
other_event r e es none = by (e.rank == r) none
  where
    by : (b : Bool) → cond b (e ∷ of r es) (of r es) ≡ [] → ((if b then 0 else is_new e.reply) + others_new r es ≡ is_new e.reply + others_new r es) × (of r es ≡ [])
    by true h = absurd (cons-ne-nil e (of r es) h)
    by false h = (refl, h)

-- of more events no fewer are new
pub others_more : (r : ℕ) (late es : Events) → others_new r late ≤ others_new r (late ++ es)
others_more r [] es = omega arith
others_more r (e ∷ late) es = let more = others_more r late es in omega arith

module _ (op : Words → Words → Words) (L : Shape) where
  stored_grows : (k v : Words) (f : Words → Words) (t : Pairs) (o : Option Words) → value_at k t ≡ o → length (stored (places L) k v f t o).1 ≡ length t + is_new (stored (places L) k v f t o).0
  stored_grows k v f t None e = by (eqb (length t) (places L))
    where
      by : (b : Bool) → (let a : MapReply Words × Pairs = cond b (Full, t) (New, with_pair k v t) in length a.1 ≡ length t + is_new a.0)
      by true = omega arith
      by false = (pair_stores k v t e).keys
  stored_grows k v f t (Some old) e = let st = value_stores k (f old) t (subst IsSome (sym e) refl) in st.keys

  sum_grows : (k : Words) (n : ℕ) (t : Pairs) (o : Option Words) → value_at k t ≡ o → length (sum_stored k n t o).1 ≡ length t + is_new (sum_stored k n t o).0
  sum_grows k n t None e = omega arith
  sum_grows k n t (Some old) e = let st = value_stores k (added n old) t (subst IsSome (sym e) refl) in st.keys

  step_grows : (t : Pairs) (c : MapCall Words Words) → length (next op L t c).1 ≡ length t + is_new (next op L t c).0
  step_grows t (Find k) = found_none (value_at k t)
    where
      found_none : (o : Option Words) → length t ≡ length t + is_new (found o)
      found_none None = omega arith
      found_none (Some v) = omega arith
  step_grows t (Insert k v) = stored_grows k v (λ old. v) t (value_at k t) refl
  step_grows t (Merge k v) = stored_grows k v (λ old. op old v) t (value_at k t) refl
  step_grows t (Add k n) = sum_grows k n t (value_at k t) refl

  -- a legal history that a rank has no event in has as many keys more as the others have new ones
  pub keys_after : (r : ℕ) (t : Pairs) (h : Events) → of r h ≡ [] → IsLegal (next op L) t h → length (state_after (next op L) t h) ≡ length t + others_new r h
  keys_after r t [] none legal = omega arith
  keys_after r t (e ∷ es) none legal =
      let other = other_event r e es none in
      let counted = other.0 in
      let after = keys_after r (next op L t e.call).1 es other.1 legal.1 in
      let grows = step_grows t e.call in
      let same : is_new e.reply ≡ is_new (next op L t e.call).0 = ap is_new legal.0 in omega arith

  -- keys never go
  pub keys_rise : (old h : Events) → IsPrefix old h → keys op L old ≤ keys op L h
  keys_rise old h p = subst (λ (z : Events). keys op L old ≤ keys op L z) p.1 (subst (λ (z : Pairs). keys op L old ≤ length z) (sym (after-append (next op L) (first_pairs L) old p.0)) (rise (state_after (next op L) (first_pairs L) old) p.0))
    where
      rise : (t : Pairs) (es : Events) → length t ≤ length (state_after (next op L) t es)
      rise t [] = omega arith
      rise t (e ∷ es) = let i = rise (next op L t e.call).1 es in let g = step_grows t e.call in omega arith

  -- in a legal history, those past a front of it
  pub keys_past : (r : ℕ) (old late : Events) → of r late ≡ [] → IsLegal (next op L) (first_pairs L) (old ++ late) → keys op L (old ++ late) ≡ keys op L old + others_new r late
  keys_past r old late none legal =
      ap length (after-append (next op L) (first_pairs L) old late) ∙ keys_after r (state_after (next op L) (first_pairs L) old) late none (legal_rest (first_pairs L) old late legal)
    where
      legal_rest : (t : Pairs) (old late : Events) → IsLegal (next op L) t (old ++ late) → IsLegal (next op L) (state_after (next op L) t old) late
      legal_rest t [] late h = h
      legal_rest t (e ∷ es) late h = legal_rest (next op L t e.call).1 es late h.1
