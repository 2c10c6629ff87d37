-- Each step of a pass keeps the rule, whatever the container.
use Rattle.std.proofs.Common.{◌≡◌, ◌≢◌, ℕ, zero, suc, ◌+◌, ◌≤◌, List, [], ◌∷◌, ◌++◌, slice_index, slice_set, set, refl, sym, ap, ◌∙◌, subst, ⊎_elim, arith, length, length-append, length-set, Some, Bool, true, false, eqb, cond, Result, Ok, Err, IfOk, IfErr}
use Rattle.std.specs.List.{All}
use Rattle.std.proofs.lemmas.List.Elements.{All-nil, All-append}
use Rattle.std.proofs.lemmas.Option.{none-some}
use Rattle.std.proofs.lemmas.Bool.{false≢true, eq-eqb, ne_eqb, cond-true, cond-false}
use mathlib.Core.Option as plain
use mathlib.Core.Option.{some-injective, some-ne-none}
use mathlib.Core.List.{IsPrefix, append-nil, append_assoc, append_cancel_left}
use base.Growing.{prefix_refl, prefix_trans}
use lib.ListN.{get_elem?}
use Rattle.atomic_table.specs.Table.{State}
use Rattle.atomic_table.proofs.Lists.{at_set, set_else}
use Rattle.bcl_event.specs.declared.event.Event.{Event}
use Rattle.bcl_event.specs.History.{of, events, state_after, IsLegal}
use Rattle.bcl_segment.specs.Steps as segment
use Rattle.bcl_phase.specs.declared.view.View.{View}
use Rattle.bcl_phase.specs.declared.view.Role.{Role}
use Rattle.bcl_phase.specs.declared.view.Role.TheVariants.{Home, Pass, Spent}
use Rattle.bcl_phase.specs.Views.{Tick, opened, moved, one_more, unless_won}
use Rattle.bcl_phase.specs.Rule.{IsLive, IsPermitted, Kept, Moves}
use Rattle.bcl_phase.specs.Told.{Took, Told, tried}
use Rattle.bcl_phase.proofs.Prefixes.{prefix_more, all_front, of-append, of_seen, seen_later, seen_within, since_then, after-append, legal-append, legal_prefix, legal_events, after_events, own_events, other_events, all_events}

abbrev is_pass : Role → Type 0
is_pass Pass = Unit {0}
is_pass _ = ⊥

home_is_no_pass : Home ≡ Pass → ⊥
home_is_no_pass e = subst is_pass (sym e) tt

pub spent_is_no_pass : Spent ≡ Pass → ⊥
spent_is_no_pass e = subst is_pass (sym e) tt

pub not_true : (b : Bool) → (b ≡ true → ⊥) → b ≡ false
not_true true h = absurd (h refl)
not_true false h = refl

set_at : {Y : Type 0} (l : List Y) (i : ℕ) (a b : Y) → get_elem? l i ≡ plain.some b → get_elem? (set l i a) i ≡ plain.some a
set_at [] i a b e = absurd (some-ne-none b (sym e))
set_at (x ∷ xs) zero a b e = refl
set_at (x ∷ xs) (suc i) a b e = set_at xs i a b e

pub same_some : {K : Type 0} (k l : K) → Some k ≡ Some l → k ≡ l
same_some k l e = cc

no_shorter : {Y : Type 0} (old new : List Y) → IsPrefix old new → length old ≤ length new
no_shorter old new more = let e : length new ≡ length old + length more.0 = ap length (sym more.1) ∙ length-append old more.0 in omega arith

-- an exchange finds no word where it is won
pub found_unless : (old : ℕ) (found : List (ℕ × ℕ)) (word n : ℕ) → IsPrefix found (unless_won old found word n)
found_unless old found word n = either (eqb n old)
  where
    either : (b : Bool) → IsPrefix found (cond b found (one_more found word n))
    either true = prefix_refl found
    either false = ((word, n) ∷ [], refl)

pub won_or_lost : (old : ℕ) (found : List (ℕ × ℕ)) (word : ℕ) (r : Result ℕ ℕ) (after : List (ℕ × ℕ)) → IfOk r (λ n. n ≡ old) → IfErr r (λ n. n ≢ old) → after ≡ unless_won old found word (segment.found_by r) → after ≡ tried found word r
won_or_lost old found word (Ok n) after won lost e = e ∙ cond-true (eqb n old) found (one_more found word n) (eq-eqb n old won)
won_or_lost old found word (Err n) after won lost e = e ∙ cond-false (eqb n old) found (one_more found word n) (ne_eqb n old lost)

module _ {C A X K T : Type 0} (ranks : K → ℕ) (start : K → T) (next : K → T → C → A × T) (permits : K → ℕ → ℕ → C → Type 0) (fits : K → ℕ → List ℕ → T → List X → Type 0) where
  abbrev V : Type 0
  V = View C A X K

  abbrev E : Type 0
  E = Event C A

  abbrev S : Type 0
  S = State (Unit {0}) V

  abbrev Rule : K → S → Type 0
  Rule = Kept ranks start next permits fits

  abbrev May : K → ℕ → E → Type 0
  May = IsPermitted ranks permits

  -- words that fit the first contents, with the first view
  pub opens : (k : K) (ws : List ℕ) (rest : X) → fits k 0 ws (start k) [] → Rule k (segment.opened ws (opened k (ranks k) rest))
  opens k ws rest h = record {
    home = opened k (ranks k) rest;
    others = [];
    history = [];
    late = [];
    notes = [];
    views = refl;
    is_home = (refl, refl, refl);
    legal = tt;
    named = All-nil (λ (e : E). e.rank ≤ ranks k);
    since = refl;
    permitted = All-nil (May k 0);
    seen = ([], refl);
    begun = ([], refl);
    own = refl;
    gone = λ r _. refl;
    returned = λ i p e. absurd (some-ne-none p (sym e));
    live = λ j v e _. absurd (some-ne-none v (sym e));
    apart = λ i j v w e _ _ _ _. absurd (some-ne-none v (sym e));
    few = omega arith;
    known = λ ws e. absurd (none-some ws e);
    counted = refl;
    alone = λ e. absurd (false≢true e);
    container = λ _. h;
  }

  pub opens_as : (k : K) (ws : List ℕ) (rest : X) (v : V) → v ≡ opened k (ranks k) rest → fits k 0 ws (start k) [] → Rule k (segment.opened ws v)
  opens_as k ws rest v is h = subst (λ (z : V). Rule k (segment.opened ws z)) (sym is) (opens k ws rest h)

  -- a pass does not sit where the home does
  behind : (home : V) (others : List V) (id : ℕ) (v : V) → home.role ≡ Home → v.role ≡ Pass → get_elem? (home ∷ others) id ≡ plain.some v → (j : ℕ) × (id ≡ suc j) × (get_elem? others j ≡ plain.some v)
  behind home others zero v is pass e = absurd (home_is_no_pass (sym is ∙ (ap (λ (z : V). z.role) (some-injective home v e) ∙ pass)))
  behind home others (suc j) v is pass e = (j, refl, e)

  module _ (k : K) where
    -- what others know of a rank stays as another rank's events are added
    unmoved : (h : List E) (r q : ℕ) (t : T) (did : List C) → r ≢ q → of q (h ++ events (next k) r t did) ≡ of q h
    unmoved h r q t did apart = of-append q h (events (next k) r t did) ∙ (ap (λ (z : List E). of q h ++ z) (other_events (next k) r q t did apart) ∙ append-nil (of q h))

    own_moved : (h mine : List E) (r : ℕ) (t : T) (did : List C) → of r h ≡ mine → of r (h ++ events (next k) r t did) ≡ mine ++ events (next k) r t did
    own_moved h mine r t did e = of-append r h (events (next k) r t did) ∙ (λ i. e i ++ own_events (next k) r t did i)

    -- what a step tells: of any key that the view before names
    abbrev pub StepTells : Tick → V → (ℕ → List (ℕ × ℕ)) → (ℕ → T → List C → X → Type 0) → ℕ → V → Type 0
    StepTells tick v found then n w = (l : K) → v.key ≡ Some l → Took ranks start next permits l tick v w × Told start next l v then n w × (w.found ≡ found n)

    module _ (holds : K → S → Type 0) (from : (l : K) (s : S) → holds l s → Rule l s) (back : (l : K) (s : S) → Rule l s → holds l s) where
      -- what a container shows of one step of a pass is all that the step needs
      pub moves : (seat : ℕ) (tick : Tick) (v : V) (i : ℕ) (f : ℕ → ℕ) (found : ℕ → List (ℕ × ℕ)) (then : ℕ → T → List C → X → Type 0) → v.role ≡ Pass → v.key ≡ Some k → ((n : ℕ) → IsPrefix v.found (found n))
          → Moves next permits fits k v.promise v.rank v.note i f then → segment.Steps (holds k) seat v i f (StepTells tick v found then)
      moves seat tick v i f found then role key longer asked s kept at small =
          let r : Rule k s = from k s kept in
          let at' : get_elem? (r.home ∷ r.others) seat ≡ plain.some v = subst (λ (l : List V). get_elem? l seat ≡ plain.some v) r.views at in
          let b = behind r.home r.others seat v r.is_home.0 role at' in
          let j : ℕ = b.0 in
          let both = r.live j v b.2 role in
          let live : IsLive k r.home r.history v = both.0 in
          let whole : r.home.loose ≡ false = not_true r.home.loose (λ e. let none = r.alone e in let l = live.1 in omega arith) in
          let h : List E = r.history in
          let t : T = state_after (next k) (start k) h in
          let m = asked s.words t r.notes both.1 (subst (λ (z : ℕ). fits k z s.words t r.notes) (sym live.2) (r.container whole)) small in
          let did : List C = m.0 in
          let x : X = m.1 in
          let es : List E = events (next k) v.rank t did in
          let h' : List E = h ++ es in
          let w : V = moved tick v h es x (found (slice_index s.words i)) in
          let legal' : IsLegal (next k) (start k) h' = legal-append (next k) (start k) h es r.legal (legal_events (next k) v.rank t did) in
          let all' : of v.rank h' ≡ v.mine ++ es = own_moved h v.mine v.rank t did live.5 in
          let own' : of v.rank w.seen ≡ w.mine = of_seen v.rank v.seen h v.mine es live.5 live.6 (own_events (next k) v.rank t did) in
          let seen' : IsPrefix v.seen w.seen = seen_later v.seen h es live.3 in
          let within : IsPrefix w.seen h' = seen_within v.seen h es live.3 in
          let may : All (May k r.home.promise) es = all_events (next k) (May k r.home.promise) (permits k v.promise v.rank) v.rank t did
          (λ c a p. (subst (λ (z : ℕ). permits k z v.rank c) live.2 p, (let l = live.1 in let few = r.few in omega arith))) m.2 in
          let late' : All (May k r.home.promise) (r.late ++ es) = All-append (May k r.home.promise) r.late es r.permitted may in
          let since' : h' ≡ r.home.start ++ (r.late ++ es) = ap (λ (l : List E). l ++ es) r.since ∙ append_assoc r.home.start r.late es in
          let mine : IsLive k r.home h' w = (live.0, live.1, live.2, within, prefix_trans r.home.start v.seen w.seen live.4 seen', all', own') in
          let notes' : List X = set r.notes v.rank x in
          let new = grown r.home.start v.seen w.seen h' (r.late ++ es) r.home.promise live.4 seen' within since' late' in (
            w,
            back k (segment.stepped s i (f (slice_index s.words i)) seat w) (record {
              home = r.home;
              others = set r.others j w;
              history = h';
              late = r.late ++ es;
              notes = notes';
              views = λ z. set (r.views z) (b.1 z) w;
              is_home = r.is_home;
              legal = legal';
              named = All-append (λ (e : E). e.rank ≤ ranks k) h es r.named
                  (all_events (next k) (λ (e : E). e.rank ≤ ranks k) (permits k v.promise v.rank) v.rank t did (λ c a p. let l = live.1 in let few = r.few in omega arith) m.2);
              since = since';
              permitted = late';
              seen = prefix_more r.home.seen h es r.seen;
              begun = r.begun;
              own = r.own;
              gone = λ q over. unmoved h v.rank q t did (λ e. let l = live.1 in omega arith) ∙ r.gone q over;
              returned = λ q p e. let o = r.returned q p e in (prefix_more p.0 h es o.0, o.1, unmoved h v.rank (r.home.passes + q) t did (λ same. let l = live.1 in omega arith) ∙ o.2);
              live = λ q u e is. ⊎_elim (λ (y : (q ≡ j) × (w ≡ u)). subst (λ (z : V). IsLive k r.home h' z × (get_elem? notes' z.rank ≡ plain.some z.note)) y.1 (mine, set_at r.notes v.rank x v.note both.1))
                  (λ (y : (q ≢ j) × (get_elem? r.others q ≡ plain.some u)). let o = r.live q u y.1 is in let l : IsLive k r.home r.history u = o.0 in let ne : v.rank ≢ u.rank = λ same. y.0 (r.apart q j u v y.1 b.2 is role (sym same)) in
                  ((l.0, l.1, l.2, prefix_more u.seen h es l.3, l.4, unmoved h v.rank u.rank t did ne ∙ l.5, l.6), set_else r.notes v.rank u.rank x (λ same. ne (sym same)) ∙ o.1))
                  (at_set r.others j q w u e);
              apart = λ p q u u' e e' is is' same. ⊎_elim
                  (λ (y : (p ≡ j) × (w ≡ u)). ⊎_elim (λ (y' : (q ≡ j) × (w ≡ u')). y.0 ∙ sym y'.0)
                  (λ (y' : (q ≢ j) × (get_elem? r.others q ≡ plain.some u')). y.0 ∙ r.apart j q v u' b.2 y'.1 role is' (ap (λ (z : V). z.rank) y.1 ∙ same)) (at_set r.others j q w u' e'))
                  (λ (y : (p ≢ j) × (get_elem? r.others p ≡ plain.some u)). ⊎_elim (λ (y' : (q ≡ j) × (w ≡ u')). r.apart p j u v y.1 b.2 is role (same ∙ ap (λ (z : V). z.rank) (sym y'.1)) ∙ sym y'.0)
                  (λ (y' : (q ≢ j) × (get_elem? r.others q ≡ plain.some u')). r.apart p q u u' y.1 y'.1 is is' same) (at_set r.others j q w u' e'))
                  (at_set r.others j p w u e);
              few = r.few;
              known = λ ws e. let none = (r.known ws e).1 in let l = live.1 in absurd (omega arith);
              counted = length-set r.notes v.rank x ∙ r.counted;
              alone = r.alone;
              container = λ _. subst (λ (z : ℕ × T). fits k z.0 (slice_set s.words i (f (slice_index s.words i))) z.1 notes')
                  (λ z. (live.2 z, sym (after-append (next k) (start k) h es ∙ after_events (next k) v.rank t did) z)) m.3;
            }),
            λ l is. subst (λ (z : K). Took ranks start next permits z tick v w × Told start next z v then (slice_index s.words i) w × (w.found ≡ found (slice_index s.words i))) (same_some k l (sym key ∙ is)) (
              record {
                same_role = refl;
                same_key = refl;
                same_rank = refl;
                same_promise = refl;
                gets_rise = refl;
                puts_rise = refl;
                atomics_rise = refl;
                found_rises = no_shorter v.found (found (slice_index s.words i)) (longer (slice_index s.words i));
                legal = legal_prefix (next k) (start k) w.seen h' within legal';
                own = own';
                late = new.0;
                grows = new.1;
                permitted = subst (λ (z : ℕ). All (May k z) new.0) (sym live.2) new.2;
              },
              record { history = h; did = did; known = live.3; fact = m.4; seen = refl; mine = refl },
              refl,
            ),
          )
        where
          -- what came past a view that grew
          grown : (first old new all late : List E) (promise : ℕ) → IsPrefix first old → IsPrefix old new → IsPrefix new all → all ≡ first ++ late → All (May k promise) late
              → (rest : List E) × (new ≡ old ++ rest) × All (May k promise) rest
          grown first old new all late promise p q r since may =
              let b = since_then (May k promise) first old all late p (prefix_trans old new all q r) since may in
              (q.0, sym q.1, all_front (May k promise) q.0 r.0 (subst (All (May k promise)) (append_cancel_left old b.0 (q.0 ++ r.0) (sym b.1 ∙ (sym r.1 ∙ (ap (λ (z : List E). z ++ r.0) (sym q.1) ∙ append_assoc old q.0 r.0)))) b.2))

      -- the same of a put, which finds nothing and tells of the number put
      pub puts : (seat : ℕ) (tick : Tick) (v : V) (i new : ℕ) (then : ℕ → T → List C → X → Type 0) → v.role ≡ Pass → v.key ≡ Some k
          → Moves next permits fits k v.promise v.rank v.note i (λ _. new) (λ _. then new) → segment.Steps (holds k) seat v i (λ _. new) (λ _. StepTells tick v (λ _. v.found) then new)
      puts seat tick v i new then role key asked s kept at small =
          let m = moves seat tick v i (λ _. new) (λ _. v.found) (λ _. then new) role key (λ _. prefix_refl v.found) asked s kept at small in
          (m.0, m.1, λ l is. let both = m.2 l is in let told = both.1 in (both.0, record { history = told.history; did = told.did; known = told.known; fact = told.fact; seen = told.seen; mine = told.mine }, both.2))
