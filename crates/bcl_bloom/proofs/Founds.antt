-- A key that was inserted is present from then on.
use Rattle.std.proofs.Common.{◌≡◌, ℕ, List, [], ◌∷◌, ◌++◌, refl, sym, ap, ◌∙◌, subst}
use Rattle.std.specs.Prelude.{Bool, true, false}
use mathlib.Core.List.{append_assoc}
use Rattle.bcl_segment.specs.declared.layout.Layout.{Layout}
use Rattle.bcl_segment.specs.Places.{places}
use Rattle.bcl_event.specs.declared.event.Event.{Event}
use Rattle.bcl_event.specs.History.{event, state_after, IsLegal}
use Rattle.bcl_event.specs.declared.filter.FilterCall.{FilterCall}
use Rattle.bcl_event.specs.declared.filter.FilterCall.TheVariants.{Insert, Find}
use Rattle.bcl_event.specs.declared.filter.FilterReply.{FilterReply}
use Rattle.bcl_event.specs.declared.filter.FilterReply.TheVariants.{Present, NotPresent}
use Rattle.bcl_event.specs.Filter.{is_present, presence}
use Rattle.bcl_bloom.specs.Bloom.{start, next}
use Rattle.bcl_bloom.specs.Calls.{FilterView, WasInserted, Stands}

abbrev is_there : FilterReply → Type 0
is_there Present = Unit {0}
is_there NotPresent = ⊥

present_only : (b : Bool) → presence b ≡ Present → b ≡ true
present_only true e = refl
present_only false e = absurd (subst is_there (sym e) tt)

-- the laws of the object, as they are proved beside it
module _ (width : ℕ) (layout : Layout) (key : List ℕ)
    (inserted : (keys : List (List ℕ)) → is_present (places layout) width (key ∷ keys) key ≡ true)
    (stays : (keys : List (List ℕ)) (other : List ℕ) → is_present (places layout) width keys key ≡ true → is_present (places layout) width (other ∷ keys) key ≡ true) where
  abbrev IsThere : List (List ℕ) → Type 0
  IsThere keys = is_present (places layout) width keys key ≡ true

  call_keeps : (keys : List (List ℕ)) (c : FilterCall (List ℕ)) → IsThere keys → IsThere (next width layout keys c).1
  call_keeps keys (Insert other) there = stays keys other there
  call_keeps keys (Find other) there = there

  history_keeps : (keys : List (List ℕ)) (h : List (Event (FilterCall (List ℕ)) FilterReply)) → IsThere keys → IsThere (state_after (next width layout) keys h)
  history_keeps keys [] there = there
  history_keeps keys (e ∷ h) there = history_keeps (next width layout keys e.call).1 h (call_keeps keys e.call there)

  insert_makes : (keys : List (List ℕ)) (before after : List (Event (FilterCall (List ℕ)) FilterReply)) (e : Event (FilterCall (List ℕ)) FilterReply) → e.call ≡ Insert key → IsThere (state_after (next width layout) keys (before ++ e ∷ after))
  insert_makes keys [] after e is = history_keeps (next width layout keys e.call).1 after (subst (λ (c : FilterCall (List ℕ)). IsThere (next width layout keys c).1) (sym is) (inserted keys))
  insert_makes keys (x ∷ before) after e is = insert_makes (next width layout keys x.call).1 before after e is

  last_reply : (keys : List (List ℕ)) (h : List (Event (FilterCall (List ℕ)) FilterReply)) (e : Event (FilterCall (List ℕ)) FilterReply) → IsLegal (next width layout) keys (h ++ e ∷ []) → e.reply ≡ (next width layout (state_after (next width layout) keys h) e.call).0
  last_reply keys [] e legal = legal.0
  last_reply keys (x ∷ h) e legal = last_reply (next width layout keys x.call).1 h e legal.1

  pub is_found : (u v : FilterView) (rank : ℕ) (c : FilterCall (List ℕ)) (b : Bool) → ((keys : List (List ℕ)) → (next width layout keys c).0 ≡ presence (is_present (places layout) width keys key))
      → Stands width layout u v (event rank c (presence b) ∷ []) → WasInserted key u.seen → b ≡ true
  is_found u v rank c b replies stands was =
      let all : List (Event (FilterCall (List ℕ)) FilterReply) = was.after ++ stands.behind.0 in
      let before : stands.before ≡ was.before ++ was.insert ∷ all = sym stands.behind.1 ∙ ap (λ (l : List (Event (FilterCall (List ℕ)) FilterReply)). l ++ stands.behind.0) was.cut ∙ append_assoc was.before (was.insert ∷ was.after) stands.behind.0 in
      let legal = subst (IsLegal (next width layout) (start layout)) stands.last stands.legal in
      let there : IsThere (state_after (next width layout) (start layout) stands.before) = subst (λ (l : List (Event (FilterCall (List ℕ)) FilterReply)). IsThere (state_after (next width layout) (start layout) l)) (sym before) (insert_makes (start layout) was.before all was.insert was.call) in
      present_only b (last_reply (start layout) stands.before (event rank c (presence b)) legal ∙ replies (state_after (next width layout) (start layout) stands.before) ∙ ap presence there)
