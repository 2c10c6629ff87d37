-- The home keeps the rule as it cuts passes, takes them back, begins a phase, and steps alone.
use Rattle.std.proofs.Common.{◌≡◌, ◌≢◌, ℕ, zero, suc, ◌+◌, ◌<◌, ◌≤◌, List, [], ◌∷◌, ◌++◌, length, slice_index, slice_set, set, refl, sym, ap, ◌∙◌, subst, ⊎_elim, arith, le_refl, ◌⊎◌, inl, inr, Some, None, Bool, false}
use Rattle.std.specs.List.{All}
use Rattle.std.proofs.lemmas.Option.{none-some}
use Rattle.std.proofs.lemmas.Bool.{false≢true}
use Rattle.std.proofs.lemmas.List.Elements.{All-nil, All-append, All-cons, All-head, All-tail}
use mathlib.Core.Logic.{dite}
use native.Mathlib.Decide.{ℕ_discrete}
use mathlib.Core.Option as plain
use mathlib.Core.Option.{some-injective, some-ne-none}
use mathlib.Core.List.{IsPrefix, append-nil}
use base.Growing.{prefix_refl, prefix_trans}
use lib.ListN.{get_elem?}
use lib.Seq.{set-get_or}
use Rattle.atomic_table.specs.Table.{State}
use Rattle.atomic_table.proofs.Lists.{at_set, at_longer, at_last}
use Rattle.bcl_event.specs.declared.event.Event.{Event}
use Rattle.bcl_event.specs.History.{of, events, state_after, state_by, IsLegal}
use Rattle.bcl_segment.specs.Steps as segment
use Rattle.bcl_phase.specs.declared.view.View.{View}
use Rattle.bcl_phase.specs.declared.view.Role.TheVariants.{Pass}
use Rattle.bcl_phase.specs.Views.{Tick, longer, spent, begins, cuts, cut, takes, gone_on}
use Rattle.bcl_phase.specs.Rule.{IsLive, IsBack, IsPermitted, Kept, Rests}
use Rattle.bcl_phase.specs.Told.{Ends, HomeTold}
use Rattle.bcl_phase.proofs.Prefixes.{longer_first, longer_second, longer_within, of_between, of_none, of-append, own_events, all_events, whole, legal-append, legal_events, after-append, after_events}
use Rattle.bcl_phase.proofs.Keeps.{spent_is_no_pass, same_some}

module _ {X : Type 0} where
  pub snoc_cases : (l : List X) (a b : X) (j : ℕ) → get_elem? (l ++ a ∷ []) j ≡ plain.some b → (get_elem? l j ≡ plain.some b) ⊎ ((j ≡ length l) × (a ≡ b))
  snoc_cases [] a b zero e = inr (refl, some-injective a b e)
  snoc_cases [] a b (suc j) e = absurd (some-ne-none b (sym e))
  snoc_cases (x ∷ xs) a b zero e = inl e
  snoc_cases (x ∷ xs) a b (suc j) e = ⊎_elim inl (λ (t : (j ≡ length xs) × (a ≡ b)). inr (ap suc t.0, t.1)) (snoc_cases xs a b j e)

  not_first : (x : X) (xs : List X) (i : ℕ) (w : X) → ¬ (i ≡ 0) → get_elem? (x ∷ xs) i ≡ plain.some w → (j : ℕ) × (i ≡ suc j) × (get_elem? xs j ≡ plain.some w)
  not_first x xs zero w not e = absurd (not refl)
  not_first x xs (suc j) w not e = (j, refl, e)

  -- a list in front of its last element
  front : (l : List X) (n : ℕ) (a : X) → length l ≡ suc n → get_elem? l n ≡ plain.some a → (xs : List X) × (l ≡ xs ++ a ∷ []) × (length xs ≡ n)
  front [] n a e h = absurd (omega arith)
  front (x ∷ []) zero a e h = ([], (λ i. some-injective x a h i ∷ []), refl)
  front (x ∷ []) (suc n) a e h = absurd (omega arith)
  front (x ∷ y ∷ l) zero a e h = absurd (omega arith)
  front (x ∷ y ∷ l) (suc n) a e h = let r = front (y ∷ l) n a (omega arith) h in (x ∷ r.0, (λ i. x ∷ r.1 i), ap suc r.2)

  none_left : (l : List X) → length l ≡ 0 → l ≡ []
  none_left [] e = refl
  none_left (x ∷ xs) e = absurd (omega arith)

  longer_by_one : (l : List X) (x : X) → length (l ++ x ∷ []) ≡ length l + 1
  longer_by_one [] x = refl
  longer_by_one (y ∷ l) x = let i = longer_by_one l x in omega arith

  all_imply : (P Q : X → Type 0) → ((x : X) → P x → Q x) → (xs : List X) → All P xs → All Q xs
  all_imply P Q goes [] h = All-nil Q
  all_imply P Q goes (x ∷ xs) h = All-cons Q x xs (goes x (All-head P x xs h)) (all_imply P Q goes xs (All-tail P x xs h))

  all_true : (xs : List X) → All (λ (_ : X). Unit {0}) xs
  all_true [] = All-nil (λ (_ : X). Unit {0})
  all_true (x ∷ xs) = All-cons (λ (_ : X). Unit {0}) x xs tt (all_true xs)

module _ {C A X K T : Type 0} (ranks : K → ℕ) (start : K → T) (next : K → T → C → A × T) (permits : K → ℕ → ℕ → C → Type 0) (fits : K → ℕ → List ℕ → T → List X → Type 0) (rest : X) (k : K) where
  abbrev V : Type 0
  V = View C A X K

  abbrev E : Type 0
  E = Event C A

  abbrev S : Type 0
  S = State (Unit {0}) V

  abbrev Rule : S → Type 0
  Rule = Kept ranks start next permits fits k

  abbrev May : ℕ → E → Type 0
  May = IsPermitted ranks permits k

  -- one more rank, with no call in flight
  abbrev Admits : Type 0
  Admits = (p : ℕ) (ws : List ℕ) (t : T) (xs : List X) → length xs < ranks k → fits k p ws t xs → fits k p ws t (xs ++ rest ∷ [])

  -- the last rank, with no call in flight, is taken off
  abbrev Releases : (ℕ → X → Type 0) → Type 0
  Releases idle = (p : ℕ) (ws : List ℕ) (t : T) (xs : List X) (y : X) → idle p y → fits k p ws t (xs ++ y ∷ []) → fits k p ws t xs

  -- where no rank is left, what fits under one promise fits under the other
  abbrev Renews : ℕ → ℕ → Type 0
  Renews p q = (ws : List ℕ) (t : T) → fits k p ws t [] → fits k q ws t []

  home_is : (s : S) (r : Rule s) (v : V) → get_elem? s.views 0 ≡ plain.some v → v ≡ r.home
  home_is s r v at = sym (some-injective r.home v (subst (λ (l : List V). get_elem? l 0 ≡ plain.some v) r.views at))

  splits_kept : (s : S) (v : V) → v.passes < v.rank → v.back ≡ [] → v.words ≡ None → v.loose ≡ false → Admits → Rule s → get_elem? s.views 0 ≡ plain.some v
      → Rule (record s { views = set s.views 0 (cuts v) ++ cut rest v ∷ [] })
  splits_kept s v room none_back no_words whole admits r at =
      let e : v ≡ r.home = home_is s r v at in
      let h : List E = r.history in
      let home : V = cuts r.home in
      let right : V = cut rest r.home in
      let notes' : List X = r.notes ++ rest ∷ [] in
      let few : r.home.passes < ranks k = subst (λ (z : ℕ). r.home.passes < z) r.is_home.2 (subst (λ (z : V). z.passes < z.rank) e room) in
      let mine : IsLive k home h right × (get_elem? notes' right.rank ≡ plain.some right.note) =
      ((r.is_home.1, omega arith, refl, r.seen, r.begun, r.gone r.home.passes (le_refl r.home.passes), refl), at_last r.notes rest r.home.passes r.counted) in record {
        home = home;
        others = r.others ++ right ∷ [];
        history = h;
        late = r.late;
        notes = notes';
        views = λ z. set (r.views z) 0 (cuts (e z)) ++ cut rest (e z) ∷ [];
        is_home = r.is_home;
        legal = r.legal;
        named = r.named;
        since = r.since;
        permitted = r.permitted;
        seen = r.seen;
        begun = r.begun;
        own = r.own;
        gone = λ q over. r.gone q (omega arith);
        returned = λ q p is. absurd (some-ne-none p (sym (subst (λ (l : List (List E × List E)). get_elem? l q ≡ plain.some p) (ap (λ (z : V). z.back) (sym e) ∙ none_back) is)));
        live = λ q u is pass. ⊎_elim (λ old. let o = r.live q u old pass in let l = o.0 in let below = l.1 in ((l.0, omega arith, l.2, l.3, l.4, l.5, l.6), at_longer r.notes (rest ∷ []) u.rank u.note o.1))
            (λ (y : (q ≡ length r.others) × (right ≡ u)). subst (λ (z : V). IsLive k home h z × (get_elem? notes' z.rank ≡ plain.some z.note)) y.1 mine) (snoc_cases r.others right u q is);
        apart = λ p q u w is is' pass pass' same. ⊎_elim
            (λ old. ⊎_elim (λ old'. r.apart p q u w old old' pass pass' same)
            (λ (y : (q ≡ length r.others) × (right ≡ w)). let below = (r.live p u old pass).0.1 in let same' : u.rank ≡ r.home.passes = same ∙ ap (λ (z : V). z.rank) (sym y.1) in absurd (omega arith))
            (snoc_cases r.others right w q is'))
            (λ (y : (p ≡ length r.others) × (right ≡ u)). ⊎_elim
            (λ old'. let below = (r.live q w old' pass').0.1 in let same' : r.home.passes ≡ w.rank = ap (λ (z : V). z.rank) y.1 ∙ same in absurd (omega arith))
            (λ (y' : (q ≡ length r.others) × (right ≡ w)). y.0 ∙ sym y'.0) (snoc_cases r.others right w q is'))
            (snoc_cases r.others right u p is);
        few = omega arith;
        known = λ ws is. absurd (none-some ws (sym no_words ∙ (ap (λ (z : V). z.words) e ∙ is)));
        counted = longer_by_one r.notes rest ∙ ap (λ (z : ℕ). z + 1) r.counted;
        alone = λ is. absurd (false≢true (sym whole ∙ (ap (λ (z : V). z.loose) e ∙ is)));
        container = λ is. admits r.home.promise s.words (state_after (next k) (start k) h) r.notes (let c = r.counted in omega arith) (r.container is);
      }

  joins_kept : (idle : ℕ → X → Type 0) (s : S) (v : V) (other : ℕ) (w : V) → w.role ≡ Pass → w.rank + 1 ≡ v.passes → idle w.promise w.note → Releases idle → Rule s
      → get_elem? s.views 0 ≡ plain.some v → other ≢ 0 → get_elem? (set s.views 0 (takes v w)) other ≡ plain.some w
      → Rule (record s { views = set (set s.views 0 (takes v w)) other (spent rest) })
  joins_kept idle s v other w pass last rests releases r at apart there =
      let e : v ≡ r.home = home_is s r v at in
      let h : List E = r.history in
      let home : V = takes r.home w in
      let at_others = not_first (takes v w) r.others other w apart (subst (λ (l : List V). get_elem? (set l 0 (takes v w)) other ≡ plain.some w) r.views there) in
      let j : ℕ = at_others.0 in
      let both = r.live j w at_others.2 pass in
      let live : IsLive k r.home h w = both.0 in
      let last' : w.rank + 1 ≡ r.home.passes = last ∙ ap (λ (z : V). z.passes) e in
      let fr = front r.notes w.rank w.note (let c = r.counted in omega arith) both.1 in
      let seen : List E = longer r.home.seen w.seen in
      let first : IsPrefix r.home.seen seen = longer_first r.home.seen w.seen h r.seen live.3 in
      let second : IsPrefix w.seen seen = longer_second r.home.seen w.seen h r.seen live.3 in
      let within : IsPrefix seen h = longer_within r.home.seen w.seen h r.seen live.3 in record {
        home = home;
        others = set r.others j (spent rest);
        history = h;
        late = r.late;
        notes = fr.0;
        views = λ z. set (set (r.views z) 0 (takes (e z) w)) (at_others.1 z) (spent rest);
        is_home = r.is_home;
        legal = r.legal;
        named = r.named;
        since = r.since;
        permitted = subst (λ (z : ℕ). All (May z) r.late) (sym live.2) r.permitted;
        seen = within;
        begun = prefix_trans r.home.start r.home.seen seen r.begun first;
        own = r.own;
        gone = λ q over. dite (ℕ_discrete q w.rank)
            (λ (is : q ≡ w.rank). subst (λ (z : ℕ). of z h ≡ of z seen) (sym is) (of_between w.rank w.seen seen h second within (live.5 ∙ sym live.6)))
            (λ (not : q ≢ w.rank). of_between q r.home.seen seen h first within (r.gone q (omega arith)));
        returned = λ q p is. came h w r.home last' live r.returned q p is;
        live = λ q u is lives. ⊎_elim (λ (y : (q ≡ j) × (spent rest ≡ u)). absurd (spent_is_no_pass (ap (λ (z : V). z.role) y.1 ∙ lives)))
            (λ (y : (q ≢ j) × (get_elem? r.others q ≡ plain.some u)). let o = r.live q u y.1 lives in let l = o.0 in let below = l.1 in
            let not : u.rank ≢ w.rank = λ same. y.0 (r.apart q j u w y.1 at_others.2 lives pass same) in (
              (l.0, omega arith, l.2 ∙ sym live.2, l.3, l.4, l.5, l.6),
              ⊎_elim (λ old. old) (λ (z : (u.rank ≡ length fr.0) × (w.note ≡ u.note)). absurd (not (z.0 ∙ fr.2))) (snoc_cases fr.0 w.note u.note u.rank (subst (λ (m : List X). get_elem? m u.rank ≡ plain.some u.note) fr.1 o.1)),
            ))
            (at_set r.others j q (spent rest) u is);
        apart = λ p q u u' is is' lives lives' same. ⊎_elim (λ (y : (p ≡ j) × (spent rest ≡ u)). absurd (spent_is_no_pass (ap (λ (z : V). z.role) y.1 ∙ lives)))
            (λ (y : (p ≢ j) × (get_elem? r.others p ≡ plain.some u)). ⊎_elim (λ (y' : (q ≡ j) × (spent rest ≡ u')). absurd (spent_is_no_pass (ap (λ (z : V). z.role) y'.1 ∙ lives')))
            (λ (y' : (q ≢ j) × (get_elem? r.others q ≡ plain.some u')). r.apart p q u u' y.1 y'.1 lives lives' same) (at_set r.others j q (spent rest) u' is'))
            (at_set r.others j p (spent rest) u is);
        few = let f = r.few in omega arith;
        known = λ ws is. let none = (r.known ws is).1 in absurd (omega arith);
        counted = fr.2;
        alone = λ is. let none = r.alone is in absurd (omega arith);
        container = λ is. releases w.promise s.words (state_after (next k) (start k) h) fr.0 w.note rests (subst (λ (z : ℕ × List X). fits k z.0 s.words (state_after (next k) (start k) h) z.1) (λ z. (sym live.2 z, fr.1 z)) (r.container is));
      }
    where
      came : (h : List E) (w home : V) → w.rank + 1 ≡ home.passes → IsLive k home h w
          → ((i : ℕ) (p : List E × List E) → get_elem? home.back i ≡ plain.some p → IsBack home h (home.passes + i) p)
          → (i : ℕ) (p : List E × List E) → get_elem? ((w.seen, w.mine) ∷ home.back) i ≡ plain.some p → IsPrefix p.0 h × IsPrefix home.start p.0 × (of (w.rank + i) h ≡ p.1)
      came h w home last live old zero p is = let same : w.rank + 0 ≡ w.rank = omega arith in
          subst (λ (q : List E × List E). IsPrefix q.0 h × IsPrefix home.start q.0 × (of (w.rank + 0) h ≡ q.1)) (some-injective (w.seen, w.mine) p is) (live.3, live.4, ap (λ (z : ℕ). of z h) same ∙ live.5)
      came h w home last live old (suc i) p is = let o = old i p is in let same : w.rank + suc i ≡ home.passes + i = omega arith in (o.0, o.1, ap (λ (z : ℕ). of z h) same ∙ o.2)

  -- what a home knows that no pass is out of: the whole history, with no call in flight
  module _ (s : S) (v : V) (no_pass : v.passes ≡ 0) (r : Rule s) (at : get_elem? s.views 0 ≡ plain.some v) where
    pub alone : v ≡ r.home
    alone = home_is s r v at

    pub none_out : r.home.passes ≡ 0
    none_out = ap (λ (z : V). z.passes) (sym alone) ∙ no_pass

    pub knows_all : r.history ≡ v.seen
    knows_all = whole r.home.seen r.history r.seen (λ q. r.gone q (let none = none_out in omega arith)) ∙ ap (λ (z : V). z.seen) (sym alone)

    pub no_notes : r.notes ≡ []
    no_notes = none_left r.notes (r.counted ∙ none_out)

    -- since the start the home has made no event
    own_since : of (ranks k) v.seen ≡ of (ranks k) v.start
    own_since =
        let none : of (ranks k) r.late ≡ [] = of_none (ranks k) r.late (under r.late r.permitted) in
        ap (of (ranks k)) (sym knows_all ∙ r.since) ∙ (of-append (ranks k) r.home.start r.late ∙ (ap (λ (z : List E). of (ranks k) r.home.start ++ z) none ∙ (append-nil (of (ranks k) r.home.start) ∙ ap (λ (z : V). of (ranks k) z.start) (sym alone))))
      where
        under : (xs : List E) → All (May r.home.promise) xs → All (λ (e : E). e.rank < ranks k) xs
        under xs h = all_imply (May r.home.promise) (λ (e : E). e.rank < ranks k) (λ e m. m.1) xs h

    pub home_mine : of v.rank v.seen ≡ v.mine
    home_mine =
        let rank : v.rank ≡ ranks k = ap (λ (z : V). z.rank) alone ∙ r.is_home.2 in
        let begun : of v.rank v.start ≡ v.mine = subst (λ (z : V). of z.rank z.start ≡ z.mine) (sym alone) r.own in
        ap (λ (z : ℕ). of z v.seen) rank ∙ (own_since ∙ (ap (λ (z : ℕ). of z v.start) (sym rank) ∙ begun))

    pub ended : Ends ranks start next permits k v
    ended = record {
      legal = subst (IsLegal (next k) (start k)) knows_all r.legal;
      named = subst (All (λ (e : E). e.rank ≤ ranks k)) knows_all r.named;
      late = r.late;
      since = sym knows_all ∙ (r.since ∙ ap (λ (z : V). z.start ++ r.late) (sym alone));
      permitted = subst (λ (z : V). All (May z.promise) r.late) (sym alone) r.permitted;
      own = own_since;
      returned = λ q p is. let o = r.returned q p (subst (λ (z : V). get_elem? z.back q ≡ plain.some p) alone is) in (
        subst (IsPrefix p.0) knows_all o.0,
        subst (λ (z : V). IsPrefix z.start p.0) (sym alone) o.1,
        (let none = none_out in let same : q ≡ r.home.passes + q = omega arith in (λ z. of (same z) (sym knows_all z)) ∙ o.2),
      );
    }

    turned : (i c : ℕ) → Renews v.promise c → Rule (segment.stepped s i (slice_index s.words i) 0 (begins c v))
    turned i c begin = let none = none_out in record {
      home = begins c r.home;
      others = r.others;
      history = r.history;
      late = [];
      notes = [];
      views = λ z. set (r.views z) 0 (begins c (alone z));
      is_home = r.is_home;
      legal = r.legal;
      named = r.named;
      since = knows_all ∙ (ap (λ (z : V). z.seen) alone ∙ sym (append-nil r.home.seen));
      permitted = All-nil (May c);
      seen = r.seen;
      begun = prefix_refl r.home.seen;
      own = subst (λ (z : V). of z.rank z.seen ≡ z.mine) alone home_mine;
      gone = r.gone;
      returned = λ q p is. absurd (some-ne-none p (sym is));
      live = λ q u is lives. let below = (r.live q u is lives).0.1 in absurd (omega arith);
      apart = r.apart;
      few = r.few;
      known = λ ws is. absurd (none-some ws is);
      counted = sym none;
      alone = r.alone;
      container = λ is. subst (λ (z : List ℕ). fits k c z (state_after (next k) (start k) r.history) []) (sym (set-get_or s.words i 0))
          (subst (λ (z : V). Renews z.promise c) alone begin s.words (state_after (next k) (start k) r.history) (subst (fits k r.home.promise s.words (state_after (next k) (start k) r.history)) no_notes (r.container is)));
    }

    -- a step that makes calls, after which the words are loose, or fit
    pub went_on : (loose : Bool) (tick : Tick) (i n : ℕ) (did : List C)
        → (loose ≡ false → fits k v.promise (slice_set s.words i n) (state_after (next k) (start k) (v.seen ++ events (next k) v.rank (state_after (next k) (start k) v.seen) did)) [])
        → IsLegal (next k) (start k) (v.seen ++ events (next k) v.rank (state_after (next k) (start k) v.seen) did)
        → Rule (segment.stepped s i n 0 (record (gone_on tick v (events (next k) v.rank (state_after (next k) (start k) v.seen) did) (slice_set s.words i n)) { loose = loose }))
    went_on loose tick i n did fit legal = let none = none_out in
        let es : List E = events (next k) v.rank (state_after (next k) (start k) v.seen) did in
        let h : List E = v.seen ++ es in
        let rank : v.rank ≡ ranks k = ap (λ (z : V). z.rank) alone ∙ r.is_home.2 in record {
          home = record (gone_on tick v es (slice_set s.words i n)) { loose = loose };
          others = r.others;
          history = h;
          late = [];
          notes = [];
          views = λ z. set (r.views z) 0 (record (gone_on tick v es (slice_set s.words i n)) { loose = loose });
          is_home = (ap (λ (z : V). z.role) alone ∙ r.is_home.0, ap (λ (z : V). z.key) alone ∙ r.is_home.1, rank);
          legal = legal;
          named = All-append (λ (e : E). e.rank ≤ ranks k) v.seen es (subst (All (λ (e : E). e.rank ≤ ranks k)) knows_all r.named)
              (all_events (next k) (λ (e : E). e.rank ≤ ranks k) (λ _. Unit {0}) v.rank (state_after (next k) (start k) v.seen) did (λ c a _. omega arith) (all_true did));
          since = sym (append-nil h);
          permitted = All-nil (May v.promise);
          seen = prefix_refl h;
          begun = prefix_refl h;
          own = of-append v.rank v.seen es ∙ (λ z. home_mine z ++ own_events (next k) v.rank (state_after (next k) (start k) v.seen) did z);
          gone = λ q _. refl;
          returned = λ q p is. absurd (some-ne-none p (sym is));
          live = λ q u is lives. let below = (r.live q u is lives).0.1 in absurd (omega arith);
          apart = r.apart;
          few = omega arith;
          known = λ ws is. (same_some (slice_set s.words i n) ws is, no_pass);
          counted = sym no_pass;
          alone = λ _. no_pass;
          container = fit;
        }

  module _ (holds : K → S → Type 0) (from : (l : K) (s : S) → holds l s → Kept ranks start next permits fits l s) (back : (l : K) (s : S) → Kept ranks start next permits fits l s → holds l s) where
    pub splits : (seat : ℕ) (v : V) → seat ≡ 0 → v.passes < v.rank → v.back ≡ [] → v.words ≡ None → v.loose ≡ false → Admits → segment.Splits (holds k) seat v (cuts v) (cut rest v)
    splits seat v zero_is room none_back no_words whole admits = subst (λ (z : ℕ). segment.Splits (holds k) z v (cuts v) (cut rest v)) (sym zero_is)
        (λ s kept at. back k (record s { views = set s.views 0 (cuts v) ++ cut rest v ∷ [] }) (splits_kept s v room none_back no_words whole admits (from k s kept) at))

    pub joins : (idle : ℕ → X → Type 0) (seat : ℕ) (v : V) (other : ℕ) (w : V) → seat ≡ 0 → w.role ≡ Pass → w.rank + 1 ≡ v.passes → idle w.promise w.note → Releases idle → segment.Joins (holds k) seat v other w (takes v w) (spent rest)
    joins idle seat v other w zero_is pass last rests releases = subst (λ (z : ℕ). segment.Joins (holds k) z v other w (takes v w) (spent rest)) (sym zero_is)
        (λ s kept at apart there. back k (record s { views = set (set s.views 0 (takes v w)) other (spent rest) }) (joins_kept idle s v other w pass last rests releases (from k s kept) at apart there))

    -- a home that no pass is out of begins a phase or is at home again, and is told of the phase before
    pub turns : (seat : ℕ) (v : V) (i c : ℕ) → seat ≡ 0 → v.passes ≡ 0 → v.key ≡ Some k → Renews v.promise c
        → segment.Steps (holds k) seat v i (λ n. n) (λ _ w. (w ≡ begins c v) × ((l : K) → v.key ≡ Some l → Ends ranks start next permits l v))
    turns seat v i c zero_is no_pass key begin = subst (λ (z : ℕ). segment.Steps (holds k) z v i (λ n. n) (λ _ w. (w ≡ begins c v) × ((l : K) → v.key ≡ Some l → Ends ranks start next permits l v))) (sym zero_is)
        (λ s kept at small. let r = from k s kept in (
          begins c v,
          back k (segment.stepped s i (slice_index s.words i) 0 (begins c v)) (turned s v no_pass r at i c begin),
          (refl, λ l is. subst (λ (z : K). Ends ranks start next permits z v) (same_some k l (sym key ∙ is)) (ended s v no_pass r at)),
        ))

    -- from home a phase begins, and what the home has seen is legal
    pub begins_phase : (seat : ℕ) (v : V) (i c : ℕ) → seat ≡ 0 → v.passes ≡ 0 → v.key ≡ Some k → v.promise ≡ 0 → Renews 0 c
        → segment.Steps (holds k) seat v i (λ n. n) (λ _ w. (w ≡ begins c v) × ((l : K) → v.key ≡ Some l → IsLegal (next l) (start l) v.seen))
    begins_phase seat v i c zero_is no_pass key at_home begin s kept at small = let m = turns seat v i c zero_is no_pass key (subst (λ (z : ℕ). Renews z c) (sym at_home) begin) s kept at small in (m.0, m.1, (m.2.0, λ l is. (m.2.1 l is).legal))

    -- a home that no pass is out of makes a step
    pub home_moves : (seat : ℕ) (tick : Tick) (v : V) (i : ℕ) (f : ℕ → ℕ) (then : ℕ → T → List C → Type 0) → seat ≡ 0 → v.passes ≡ 0 → v.loose ≡ false → v.key ≡ Some k → v.promise ≡ 0 → Rests next permits fits k v.words i f then
        → segment.Steps (holds k) seat v i f (λ n w. (l : K) → v.key ≡ Some l → HomeTold start next fits l tick v i f then n w)
    home_moves seat tick v i f then zero_is no_pass whole key at_home asked = subst (λ (z : ℕ). segment.Steps (holds k) z v i f (λ n w. (l : K) → v.key ≡ Some l → HomeTold start next fits l tick v i f then n w)) (sym zero_is)
        (λ s kept at small.
        let r : Rule s = from k s kept in
        let t : T = state_after (next k) (start k) v.seen in
        let e : v ≡ r.home = alone s v no_pass r at in
        let known : (ws : List ℕ) → v.words ≡ Some ws → s.words ≡ ws = λ ws e'. (r.known ws (ap (λ (y : V). y.words) (sym e) ∙ e')).0 in
        let fit : fits k 0 s.words t [] = subst (λ (z : ℕ × List E × List X). fits k z.0 s.words (state_after (next k) (start k) z.1) z.2) (λ z. ((ap (λ (y : V). y.promise) (sym e) ∙ at_home) z, knows_all s v no_pass r at z, no_notes s v no_pass r at z)) (r.container (ap (λ (y : V). y.loose) (sym e) ∙ whole)) in
        let m = asked s.words t known fit small in
        let es : List E = events (next k) v.rank t m.0 in
        let after_words : List ℕ = slice_set s.words i (f (slice_index s.words i)) in
        let legal : IsLegal (next k) (start k) (v.seen ++ es) = legal-append (next k) (start k) v.seen es (subst (IsLegal (next k) (start k)) (knows_all s v no_pass r at) r.legal) (legal_events (next k) v.rank t m.0) in
        let after : state_after (next k) (start k) (v.seen ++ es) ≡ state_by (next k) t m.0 = after-append (next k) (start k) v.seen es ∙ after_events (next k) v.rank t m.0 in (
          gone_on tick v es after_words,
          back k (segment.stepped s i (f (slice_index s.words i)) 0 (gone_on tick v es after_words)) (subst (λ (b : Bool). Rule (segment.stepped s i (f (slice_index s.words i)) 0 (record (gone_on tick v es after_words) { loose = b }))) (sym whole) (went_on s v no_pass r at false tick i (f (slice_index s.words i)) m.0
              (λ _. subst (λ (z : ℕ × T). fits k z.0 (slice_set s.words i (f (slice_index s.words i))) z.1 []) (λ z. (sym at_home z, sym after z)) m.1) legal)),
          λ l is. subst (λ (z : K). HomeTold start next fits z tick v i f then (slice_index s.words i) (gone_on tick v es after_words)) (same_some k l (sym key ∙ is)) (record { words = s.words; known = known; fit = fit; found = refl; did = m.0; fact = m.2; after = refl; legal = legal }),
        ))

    pub home_puts : (seat : ℕ) (tick : Tick) (v : V) (i new : ℕ) (then : ℕ → T → List C → Type 0) → seat ≡ 0 → v.passes ≡ 0 → v.loose ≡ false → v.key ≡ Some k → v.promise ≡ 0 → Rests next permits fits k v.words i (λ _. new) (λ _. then new)
        → segment.Steps (holds k) seat v i (λ _. new) (λ _ w. (l : K) → v.key ≡ Some l → HomeTold start next fits l tick v i (λ _. new) then new w)
    home_puts seat tick v i new then zero_is no_pass whole key at_home asked s kept at small =
        let m = home_moves seat tick v i (λ _. new) (λ _. then new) zero_is no_pass whole key at_home asked s kept at small in
        (m.0, m.1, λ l is. let told = m.2 l is in record { words = told.words; known = told.known; fit = told.fit; found = refl; did = told.did; fact = told.fact; after = told.after; legal = told.legal })
