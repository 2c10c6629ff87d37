-- Beginnings of a list, and what a history tells of a rank.
use Rattle.std.proofs.Common.{◌≡◌, ◌≢◌, ℕ, eqb, List, [], ◌∷◌, ◌++◌, ◌<◌, cond, refl, sym, ap, ◌∙◌, subst, arith}
use Rattle.std.specs.List.{All}
use Rattle.std.proofs.lemmas.List.Elements.{filter-append, All-nil, All-cons, All-head, All-tail}
use Rattle.std.proofs.lemmas.Bool.{eq-eqb, ne_eqb}
use mathlib.Core.List.{IsPrefix, append-nil, append_assoc, append_cancel_left, cons-ne-nil, head-eq_of_cons-eq, tail-eq_of_cons-eq}
use base.Growing.{prefix_refl, prefix_trans}
use Rattle.bcl_event.specs.declared.event.Event.{Event}
use Rattle.bcl_event.specs.History.{event, of, state_after, IsLegal, state_by, events}
use Rattle.bcl_phase.specs.Views.{longer, seen_by}

module _ {E : Type 0} where
  pub longer_first : (a b l : List E) → IsPrefix a l → IsPrefix b l → IsPrefix a (longer a b)
  longer_first [] b l h k = (b, refl)
  longer_first (x ∷ a) [] l h k = prefix_refl (x ∷ a)
  longer_first (x ∷ a) (y ∷ b) [] h k = absurd (cons-ne-nil x (a ++ h.0) h.1)
  longer_first (x ∷ a) (y ∷ b) (z ∷ l) h k = let r = longer_first a b l (h.0, tail-eq_of_cons-eq h.1) (k.0, tail-eq_of_cons-eq k.1) in (r.0, λ i. x ∷ r.1 i)

  pub longer_second : (a b l : List E) → IsPrefix a l → IsPrefix b l → IsPrefix b (longer a b)
  longer_second [] b l h k = prefix_refl b
  longer_second (x ∷ a) [] l h k = (x ∷ a, refl)
  longer_second (x ∷ a) (y ∷ b) [] h k = absurd (cons-ne-nil x (a ++ h.0) h.1)
  longer_second (x ∷ a) (y ∷ b) (z ∷ l) h k = let r = longer_second a b l (h.0, tail-eq_of_cons-eq h.1) (k.0, tail-eq_of_cons-eq k.1) in
      let e : x ≡ y = head-eq_of_cons-eq (h.1 ∙ sym k.1) in (r.0, λ i. sym e i ∷ r.1 i)

  pub longer_within : (a b l : List E) → IsPrefix a l → IsPrefix b l → IsPrefix (longer a b) l
  longer_within [] b l h k = k
  longer_within (x ∷ a) [] l h k = h
  longer_within (x ∷ a) (y ∷ b) [] h k = absurd (cons-ne-nil x (a ++ h.0) h.1)
  longer_within (x ∷ a) (y ∷ b) (z ∷ l) h k = let r = longer_within a b l (h.0, tail-eq_of_cons-eq h.1) (k.0, tail-eq_of_cons-eq k.1) in
      let e : x ≡ z = head-eq_of_cons-eq h.1 in (r.0, λ i. e i ∷ r.1 i)

  pub prefix_more : (a b c : List E) → IsPrefix a b → IsPrefix a (b ++ c)
  prefix_more a b c h = prefix_trans a b (b ++ c) h (c, refl)

  -- the back of a list
  all_behind : (P : E → Type 0) (xs ys : List E) → All P (xs ++ ys) → All P ys
  all_behind P [] ys h = h
  all_behind P (x ∷ xs) ys h = all_behind P xs ys (All-tail P x (xs ++ ys) h)

  -- and its front
  pub all_front : (P : E → Type 0) (xs ys : List E) → All P (xs ++ ys) → All P xs
  all_front P [] ys h = All-nil P
  all_front P (x ∷ xs) ys h = All-cons P x xs (All-head P x (xs ++ ys) h) (all_front P xs ys (All-tail P x (xs ++ ys) h))

  -- what is said of all that came since the start holds of what came since a later time
  pub since_then : (P : E → Type 0) (start seen history late : List E) → IsPrefix start seen → IsPrefix seen history → history ≡ start ++ late → All P late
      → (rest : List E) × (history ≡ seen ++ rest) × All P rest
  since_then P start seen history late h k e all =
      let same : late ≡ h.0 ++ k.0 = append_cancel_left start late (h.0 ++ k.0) (sym e ∙ (sym k.1 ∙ (ap (λ (z : List E). z ++ k.0) (sym h.1) ∙ append_assoc start h.0 k.0))) in
      (k.0, sym k.1, all_behind P h.0 k.0 (subst (All P) same all))

  pub seen_later : (seen h es : List E) → IsPrefix seen h → IsPrefix seen (seen_by seen h es)
  seen_later seen h [] p = prefix_refl seen
  seen_later seen h (e ∷ es) p = prefix_trans seen h (h ++ e ∷ es) p (e ∷ es, refl)

  pub seen_within : (seen h es : List E) → IsPrefix seen h → IsPrefix (seen_by seen h es) (h ++ es)
  seen_within seen h [] p = subst (IsPrefix seen) (sym (append-nil h)) p
  seen_within seen h (e ∷ es) p = prefix_refl (h ++ e ∷ es)

  rest_none : (a s t : List E) → a ≡ a ++ s ++ t → s ≡ []
  rest_none a [] t e = refl
  rest_none a (x ∷ s) t e = absurd (cons-ne-nil x (s ++ t) (append_cancel_left a (x ∷ s ++ t) [] (sym (append_assoc a (x ∷ s) t) ∙ (sym e ∙ sym (append-nil a)))))

module _ {C A : Type 0} where
  own_first : (r : ℕ) (e : Event C A) (es : List (Event C A)) → e.rank ≡ r → of r (e ∷ es) ≡ e ∷ of r es
  own_first r e es is = ap (λ b. cond b (e ∷ of r es) (of r es)) (eq-eqb e.rank r is)

  other_first : (r : ℕ) (e : Event C A) (es : List (Event C A)) → e.rank ≢ r → of r (e ∷ es) ≡ of r es
  other_first r e es not = ap (λ b. cond b (e ∷ of r es) (of r es)) (ne_eqb e.rank r not)

  pub of-append : (r : ℕ) (xs ys : List (Event C A)) → of r (xs ++ ys) ≡ of r xs ++ of r ys
  of-append r xs ys = filter-append (λ e. eqb e.rank r) xs ys

  pub of_prefix : (r : ℕ) (xs ys : List (Event C A)) → IsPrefix xs ys → IsPrefix (of r xs) (of r ys)
  of_prefix r xs ys h = (of r h.0, sym (of-append r xs h.0) ∙ ap (of r) h.1)

  -- a rank above those of all events has none
  pub of_none : (r : ℕ) (xs : List (Event C A)) → All (λ (e : Event C A). e.rank < r) xs → of r xs ≡ []
  of_none r [] h = refl
  of_none r (e ∷ es) h = let below : e.rank < r = All-head (λ (e : Event C A). e.rank < r) e es h in
      other_first r e es (λ same. omega arith) ∙ of_none r es (All-tail (λ (e : Event C A). e.rank < r) e es h)

  pub of_seen : (r : ℕ) (seen h mine es : List (Event C A)) → of r h ≡ mine → of r seen ≡ mine → of r es ≡ es → of r (seen_by seen h es) ≡ mine ++ es
  of_seen r seen h mine [] all some own = some ∙ sym (append-nil mine)
  of_seen r seen h mine (e ∷ es) all some own = of-append r h (e ∷ es) ∙ (λ i. all i ++ own i)

  -- between two lists that agree on a rank
  pub of_between : (r : ℕ) (a b c : List (Event C A)) → IsPrefix a b → IsPrefix b c → of r c ≡ of r a → of r c ≡ of r b
  of_between r a b c h k e = let s : List (Event C A) = of r h.0 in let t : List (Event C A) = of r k.0 in
      let ab : of r a ++ s ≡ of r b = sym (of-append r a h.0) ∙ ap (of r) h.1 in
      let bc : of r b ++ t ≡ of r c = sym (of-append r b k.0) ∙ ap (of r) k.1 in
      let none_more : s ≡ [] = rest_none (of r a) s t (sym e ∙ (sym bc ∙ ap (λ (z : List (Event C A)). z ++ t) (sym ab))) in
      e ∙ (sym (append-nil (of r a)) ∙ (ap (λ (z : List (Event C A)). of r a ++ z) (sym none_more) ∙ ab))

  no_events : (xs : List (Event C A)) → ((r : ℕ) → of r xs ≡ []) → xs ≡ []
  no_events [] h = refl
  no_events (e ∷ es) h = absurd (cons-ne-nil e (of e.rank es) (sym (ap (λ b. cond b (e ∷ of e.rank es) (of e.rank es)) (eq-eqb e.rank e.rank refl)) ∙ h e.rank))

  -- a beginning with all events of each rank is the whole
  pub whole : (a h : List (Event C A)) → IsPrefix a h → ((r : ℕ) → of r h ≡ of r a) → h ≡ a
  whole a h p all = let rest : p.0 ≡ [] = no_events p.0 (λ r. append_cancel_left (of r a) (of r p.0) [] (sym (of-append r a p.0) ∙ (ap (of r) p.1 ∙ (all r ∙ sym (append-nil (of r a)))))) in
      sym p.1 ∙ (ap (λ (z : List (Event C A)). a ++ z) rest ∙ append-nil a)

  module _ {T : Type 0} (next : T → C → A × T) where
    pub after-append : (t : T) (xs ys : List (Event C A)) → state_after next t (xs ++ ys) ≡ state_after next (state_after next t xs) ys
    after-append t [] ys = refl
    after-append t (e ∷ es) ys = after-append (next t e.call).1 es ys

    pub legal-append : (t : T) (xs ys : List (Event C A)) → IsLegal next t xs → IsLegal next (state_after next t xs) ys → IsLegal next t (xs ++ ys)
    legal-append t [] ys h k = k
    legal-append t (e ∷ es) ys h k = (h.0, legal-append (next t e.call).1 es ys h.1 k)

    pub legal_first : (t : T) (xs ys : List (Event C A)) → IsLegal next t (xs ++ ys) → IsLegal next t xs
    legal_first t [] ys h = tt
    legal_first t (e ∷ es) ys h = (h.0, legal_first (next t e.call).1 es ys h.1)

    pub legal_prefix : (t : T) (xs ys : List (Event C A)) → IsPrefix xs ys → IsLegal next t ys → IsLegal next t xs
    legal_prefix t xs ys p h = legal_first t xs p.0 (subst (IsLegal next t) (sym p.1) h)

    -- what a step adds
    pub legal_events : (r : ℕ) (t : T) (did : List C) → IsLegal next t (events next r t did)
    legal_events r t [] = tt
    legal_events r t (c ∷ cs) = (refl, legal_events r (next t c).1 cs)

    pub after_events : (r : ℕ) (t : T) (did : List C) → state_after next t (events next r t did) ≡ state_by next t did
    after_events r t [] = refl
    after_events r t (c ∷ cs) = after_events r (next t c).1 cs

    pub own_events : (r : ℕ) (t : T) (did : List C) → of r (events next r t did) ≡ events next r t did
    own_events r t [] = refl
    own_events r t (c ∷ cs) = own_first r (event r c (next t c).0) (events next r (next t c).1 cs) refl ∙ ap (λ (z : List (Event C A)). event r c (next t c).0 ∷ z) (own_events r (next t c).1 cs)

    pub other_events : (r q : ℕ) (t : T) (did : List C) → r ≢ q → of q (events next r t did) ≡ []
    other_events r q t [] apart = refl
    other_events r q t (c ∷ cs) apart = other_first q (event r c (next t c).0) (events next r (next t c).1 cs) apart ∙ other_events r q (next t c).1 cs apart

    -- what holds of an event of the rank, for each of the calls, holds of each event
    pub all_events : (P : Event C A → Type 0) (Q : C → Type 0) (r : ℕ) (t : T) (did : List C) → ((c : C) (a : A) → Q c → P (event r c a)) → All Q did → All P (events next r t did)
    all_events P Q r t [] goes h = All-nil P
    all_events P Q r t (c ∷ cs) goes h = All-cons P (event r c (next t c).0) (events next r (next t c).1 cs) (goes c (next t c).0 (All-head Q c cs h)) (all_events P Q r (next t c).1 cs goes (All-tail Q c cs h))
