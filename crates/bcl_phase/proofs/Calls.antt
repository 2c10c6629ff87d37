-- Calls of several steps, and runs of several calls.
use Rattle.std.proofs.Common.{◌≡◌, ℕ, ◌≤◌, List, [], ◌∷◌, ◌++◌, refl, sym, ap, ◌∙◌, subst, arith, length, le_refl, le_trans, ◌⊎◌, inl, inr, ⊎_elim}
use Rattle.std.specs.List.{All}
use Rattle.std.proofs.lemmas.List.Elements.{All-nil, All-append}
use mathlib.Core.List.{IsPrefix, append-nil, append_assoc}
use base.Growing.{prefix_refl, prefix_trans}
use Rattle.bcl_event.specs.declared.event.Event.{Event}
use Rattle.bcl_event.specs.History.{of, event, state_after, IsLegal, events}
use Rattle.bcl_phase.specs.declared.view.View.{View}
use Rattle.bcl_phase.specs.Views.{Tick, get, put, atomic, gets_after, puts_after, atomics_after, seen_by}
use Rattle.bcl_phase.specs.Rule.{IsPermitted}
use Rattle.bcl_phase.specs.Told.{Took, Told}
use Rattle.bcl_phase.specs.Stands.{GoesOn, Still, Sees, Goes, Stands, EndsWith, Ran}

-- a count never falls
gets_risen : (t : Tick) (n : ℕ) → n ≤ gets_after t n
gets_risen get n = omega arith
gets_risen put n = omega arith
gets_risen atomic n = omega arith

puts_risen : (t : Tick) (n : ℕ) → n ≤ puts_after t n
puts_risen get n = omega arith
puts_risen put n = omega arith
puts_risen atomic n = omega arith

atomics_risen : (t : Tick) (n : ℕ) → n ≤ atomics_after t n
atomics_risen get n = omega arith
atomics_risen put n = omega arith
atomics_risen atomic n = omega arith

module _ {C A X K : Type 0} where
  pub goes_on_refl : (v : View C A X K) → GoesOn v v
  goes_on_refl v = record { same_role = refl; same_key = refl; same_rank = refl; same_promise = refl; gets_rise = omega arith; puts_rise = omega arith; atomics_rise = omega arith; found_rises = le_refl (length v.found) }

  pub goes_on_trans : (u v w : View C A X K) → GoesOn u v → GoesOn v w → GoesOn u w
  goes_on_trans u v w a b = let g = a.gets_rise in let g' = b.gets_rise in let p = a.puts_rise in let p' = b.puts_rise in let n = a.atomics_rise in let n' = b.atomics_rise in record {
    same_role = b.same_role ∙ a.same_role;
    same_key = b.same_key ∙ a.same_key;
    same_rank = b.same_rank ∙ a.same_rank;
    same_promise = b.same_promise ∙ a.same_promise;
    gets_rise = omega arith;
    puts_rise = omega arith;
    atomics_rise = omega arith;
    found_rises = le_trans a.found_rises b.found_rises;
  }

  pub still_refl : (v : View C A X K) → Still v v
  still_refl v = record { seen = refl; mine = refl; same = goes_on_refl v }

  pub still_trans : (u v w : View C A X K) → Still u v → Still v w → Still u w
  still_trans u v w a b = record { seen = b.seen ∙ a.seen; mine = b.mine ∙ a.mine; same = goes_on_trans u v w a.same b.same }

module _ {C A X K : Type 0} (ranks : K → ℕ) (permits : K → ℕ → ℕ → C → Type 0) (k : K) where
  pub sees_refl : (v : View C A X K) → Sees ranks permits k v v
  sees_refl v = record { late = []; grows = sym (append-nil v.seen); permitted = All-nil (IsPermitted ranks permits k v.promise) }

  pub sees_trans : (u v w : View C A X K) → v.promise ≡ u.promise → Sees ranks permits k u v → Sees ranks permits k v w → Sees ranks permits k u w
  sees_trans u v w same a b = record {
    late = a.late ++ b.late;
    grows = b.grows ∙ (ap (λ (z : List (Event C A)). z ++ b.late) a.grows ∙ append_assoc u.seen a.late b.late);
    permitted = All-append (IsPermitted ranks permits k u.promise) a.late b.late a.permitted (subst (λ (z : ℕ). All (IsPermitted ranks permits k z) b.late) same b.permitted);
  }

  pub goes_refl : (v : View C A X K) → Goes ranks permits k v v
  goes_refl v = record { same = goes_on_refl v; sees = sees_refl v; mine = prefix_refl v.mine }

  pub goes_trans : (u v w : View C A X K) → Goes ranks permits k u v → Goes ranks permits k v w → Goes ranks permits k u w
  goes_trans u v w a b = record {
    same = goes_on_trans u v w a.same b.same;
    sees = sees_trans u v w a.same.same_promise a.sees b.sees;
    mine = prefix_trans u.mine v.mine w.mine a.mine b.mine;
  }

module _ {C A X K T : Type 0} (ranks : K → ℕ) (start : K → T) (next : K → T → C → A × T) (permits : K → ℕ → ℕ → C → Type 0) (k : K) where
  -- a step stands with the events of the calls that it makes
  pub stands_by : (tick : Tick) (v w : View C A X K) (then : ℕ → T → List C → X → Type 0) (n : ℕ) → Took ranks start next permits k tick v w → (told : Told start next k v then n w)
      → Stands ranks start next permits k v w (events (next k) v.rank (state_after (next k) (start k) told.history) told.did)
  stands_by tick v w then n took told =
      let es : List (Event C A) = events (next k) v.rank (state_after (next k) (start k) told.history) told.did in
      let cut = cut_at v.seen told.history w.seen es told.known told.seen in record {
        legal = took.legal;
        before = cut.0;
        last = cut.1;
        behind = cut.2;
        none = λ e. told.seen ∙ ap (seen_by v.seen told.history) e;
        mine = told.mine;
        own = took.own;
        same = record {
          same_role = took.same_role;
          same_key = took.same_key;
          same_rank = took.same_rank;
          same_promise = took.same_promise;
          gets_rise = subst (λ (z : ℕ). v.gets ≤ z) (sym took.gets_rise) (gets_risen tick v.gets);
          puts_rise = subst (λ (z : ℕ). v.puts ≤ z) (sym took.puts_rise) (puts_risen tick v.puts);
          atomics_rise = subst (λ (z : ℕ). v.atomics ≤ z) (sym took.atomics_rise) (atomics_risen tick v.atomics);
          found_rises = took.found_rises;
        };
        sees = record { late = took.late; grows = took.grows; permitted = took.permitted };
      }
    where
      cut_at : (seen h new es : List (Event C A)) → IsPrefix seen h → new ≡ seen_by seen h es → (before : List (Event C A)) × (new ≡ before ++ es) × IsPrefix seen before
      cut_at seen h new [] p e = (seen, e ∙ sym (append-nil seen), prefix_refl seen)
      cut_at seen h new (x ∷ xs) p e = (h, e, p)

  -- a step that makes one call, with this reply
  pub stands_one : (tick : Tick) (v w : View C A X K) (then : ℕ → T → List C → X → Type 0) (n : ℕ) (c : C) (a : A) → Took ranks start next permits k tick v w → (told : Told start next k v then n w)
      → told.did ≡ c ∷ [] → (next k (state_after (next k) (start k) told.history) c).0 ≡ a → Stands ranks start next permits k v w (event v.rank c a ∷ [])
  stands_one tick v w then n c a took told one reply = subst (Stands ranks start next permits k v w)
      (ap (events (next k) v.rank (state_after (next k) (start k) told.history)) one ∙ (λ i. event v.rank c (reply i) ∷ [])) (stands_by tick v w then n took told)

  -- a step that makes none
  pub still_by : (tick : Tick) (v w : View C A X K) (then : ℕ → T → List C → X → Type 0) (n : ℕ) → Took ranks start next permits k tick v w → (told : Told start next k v then n w) → told.did ≡ [] → Still v w
  still_by tick v w then n took told none = let es = ap (events (next k) v.rank (state_after (next k) (start k) told.history)) none in record {
    seen = told.seen ∙ ap (seen_by v.seen told.history) es;
    mine = told.mine ∙ (ap (λ (z : List (Event C A)). v.mine ++ z) es ∙ append-nil v.mine);
    same = (stands_by tick v w then n took told).same;
  }

  -- steps that make no call come before
  pub stands_behind : (u v w : View C A X K) (es : List (Event C A)) → Still u v → Stands ranks start next permits k v w es → Stands ranks start next permits k u w es
  stands_behind u v w es a b = record {
    legal = b.legal;
    before = b.before;
    last = b.last;
    behind = subst (λ (z : List (Event C A)). IsPrefix z b.before) a.seen b.behind;
    none = λ e. b.none e ∙ a.seen;
    mine = b.mine ∙ ap (λ (z : List (Event C A)). z ++ es) a.mine;
    own = b.own;
    same = goes_on_trans u v w a.same b.same;
    sees = record {
      late = b.sees.late;
      grows = b.sees.grows ∙ ap (λ (z : List (Event C A)). z ++ b.sees.late) a.seen;
      permitted = subst (λ (z : ℕ). All (IsPermitted ranks permits k z) b.sees.late) a.same.same_promise b.sees.permitted;
    };
  }

  -- steps that make no call come after
  pub stands_still : (u v w : View C A X K) (es : List (Event C A)) → Stands ranks start next permits k u v es → Still v w → Stands ranks start next permits k u w es
  stands_still u v w es a b = record {
    legal = subst (IsLegal (next k) (start k)) (sym b.seen) a.legal;
    before = a.before;
    last = b.seen ∙ a.last;
    behind = a.behind;
    none = λ e. b.seen ∙ a.none e;
    mine = b.mine ∙ a.mine;
    own = (λ i. of (b.same.same_rank i) (b.seen i)) ∙ (a.own ∙ sym b.mine);
    same = goes_on_trans u v w a.same b.same;
    sees = record { late = a.sees.late; grows = b.seen ∙ a.sees.grows; permitted = a.sees.permitted };
  }

  pub stands_goes : (v w : View C A X K) (es : List (Event C A)) → Stands ranks start next permits k v w es → Goes ranks permits k v w
  stands_goes v w es a = record { same = a.same; sees = a.sees; mine = (es, sym a.mine) }

  pub ran_goes : (v w : View C A X K) (es : List (Event C A)) → Ran ranks start next permits k v w es → Goes ranks permits k v w
  ran_goes v w es a = record { same = a.same; sees = a.sees; mine = (es, sym a.mine) }

  -- no call
  pub ran_none : (v : View C A X K) → Ran ranks start next permits k v v []
  ran_none v = record { made = inl (refl, refl); mine = sym (append-nil v.mine); same = goes_on_refl v; sees = sees_refl ranks permits k v }

  -- a call, or several side by side
  pub stands_ran : (v w : View C A X K) (es : List (Event C A)) → Stands ranks start next permits k v w es → Ran ranks start next permits k v w es
  stands_ran v w es a = record { made = made es a; mine = a.mine; same = a.same; sees = a.sees }
    where
      last_one : (x : Event C A) (xs : List (Event C A)) → (front : List (Event C A)) × (e : Event C A) × (x ∷ xs ≡ front ++ e ∷ [])
      last_one x [] = ([], x, refl)
      last_one x (y ∷ ys) = let r = last_one y ys in (x ∷ r.0, r.1, ap (λ (z : List (Event C A)). x ∷ z) r.2)

      made : (es : List (Event C A)) → Stands ranks start next permits k v w es → ((es ≡ []) × (w.seen ≡ v.seen)) ⊎ EndsWith start next k w es
      made [] a = inl (refl, a.none refl)
      made (x ∷ xs) a = let c = last_one x xs in inr (record {
        legal = a.legal;
        own = a.own;
        front = c.0;
        before = a.before ++ c.0;
        last = c.1;
        all = c.2;
        seen = a.last ∙ (ap (λ (z : List (Event C A)). a.before ++ z) c.2 ∙ sym (append_assoc a.before c.0 (c.1 ∷ [])));
      })

  -- calls behind calls
  pub ran_trans : (u v w : View C A X K) (es fs : List (Event C A)) → Ran ranks start next permits k u v es → Ran ranks start next permits k v w fs → Ran ranks start next permits k u w (es ++ fs)
  ran_trans u v w es fs a b = record {
    made = ⊎_elim
        (λ (none : (fs ≡ []) × (w.seen ≡ v.seen)).
        let all : es ++ fs ≡ es = ap (λ (z : List (Event C A)). es ++ z) none.0 ∙ append-nil es in
        let mine : w.mine ≡ v.mine = b.mine ∙ (ap (λ (z : List (Event C A)). v.mine ++ z) none.0 ∙ append-nil v.mine) in
        ⊎_elim
        (λ (nothing : (es ≡ []) × (v.seen ≡ u.seen)). inl (all ∙ nothing.0, none.1 ∙ nothing.1))
        (λ (m : EndsWith start next k v es). inr (record {
          legal = subst (IsLegal (next k) (start k)) (sym none.1) m.legal;
          own = (λ i. of (b.same.same_rank i) (none.1 i)) ∙ (m.own ∙ sym mine);
          front = m.front;
          before = m.before;
          last = m.last;
          all = all ∙ m.all;
          seen = none.1 ∙ m.seen;
        }))
        a.made)
        (λ (m : EndsWith start next k w fs). inr (record {
          legal = m.legal;
          own = m.own;
          front = es ++ m.front;
          before = m.before;
          last = m.last;
          all = ap (λ (z : List (Event C A)). es ++ z) m.all ∙ sym (append_assoc es m.front (m.last ∷ []));
          seen = m.seen;
        }))
        b.made;
    mine = b.mine ∙ (ap (λ (z : List (Event C A)). z ++ fs) a.mine ∙ append_assoc u.mine es fs);
    same = goes_on_trans u v w a.same b.same;
    sees = sees_trans ranks permits k u v w a.same.same_promise a.sees b.sees;
  }
