-- A home that no pass is out of may learn its words, and forget them.
-- It may let them be loose, too: a step then owes nothing, until the words are shown to fit again.
use Rattle.std.proofs.Common.{◌≡◌, ℕ, List, [], ◌++◌, slice_index, slice_set, set, refl, sym, ap, ◌∙◌, subst, arith, Some, None, Bool, true, false}
use Rattle.std.specs.Prelude.{Option}
use Rattle.std.proofs.lemmas.Bool.{false≢true}
use Rattle.std.proofs.lemmas.Option.{none-some}
use mathlib.Core.Option as plain
use mathlib.Core.Option.{some-ne-none}
use lib.ListN.{get_elem?}
use lib.Seq.{set-get_or}
use mathlib.Core.List.{append-nil}
use base.Growing.{prefix_refl}
use Rattle.std.proofs.lemmas.List.Elements.{All-nil}
use Rattle.atomic_table.specs.Table.{State}
use Rattle.bcl_event.specs.declared.event.Event.{Event}
use Rattle.bcl_event.specs.History.{of, state_after, state_by, events, IsLegal}
use Rattle.bcl_segment.specs.Steps as segment
use Rattle.bcl_phase.specs.declared.view.View.{View}
use Rattle.bcl_phase.specs.Views.{Tick, get, put, begins, knowing, words_of, loosened, loose_after, mended, gone_on}
use Rattle.bcl_phase.specs.Rule.{IsPermitted, Kept, Pairs}
use Rattle.bcl_phase.specs.Told.{Ends}
use Rattle.bcl_phase.proofs.Keeps.{same_some}
use Rattle.bcl_phase.proofs.Prefixes.{legal-append, legal_events, after-append, after_events}
use Rattle.bcl_phase.proofs.Homes.{alone, none_out, knows_all, no_notes, home_mine, ended, went_on}

module _ {C A X K T : Type 0} (ranks : K → ℕ) (start : K → T) (next : K → T → C → A × T) (permits : K → ℕ → ℕ → C → Type 0) (fits : K → ℕ → List ℕ → T → List X → Type 0) (rest : X) (k : K) where
  abbrev V : Type 0
  V = View C A X K

  abbrev E : Type 0
  E = Event C A

  abbrev S : Type 0
  S = State (Unit {0}) V

  abbrev Rule : S → Type 0
  Rule = Kept ranks start next permits fits k

  -- the words fit what a home has seen
  abbrev Fit : V → List ℕ → Type 0
  Fit v ws = fits k v.promise ws (state_after (next k) (start k) v.seen) []

  -- a home after a step, which knows these words or none, and whose words are loose, or fit
  abbrev eased_view : V → Option (List ℕ) → Bool → ℕ → ℕ → ℕ → V
  eased_view v words loose gets puts atomics = record v { words = words; loose = loose; gets = gets; puts = puts; atomics = atomics }

  module _ (s : S) (v : V) (no_pass : v.passes ≡ 0) (r : Rule s) (at : get_elem? s.views 0 ≡ plain.some v) where
    home : v ≡ r.home
    home = alone ranks start next permits fits rest k s v no_pass r at

    none : r.home.passes ≡ 0
    none = none_out ranks start next permits fits rest k s v no_pass r at

    all_seen : r.history ≡ v.seen
    all_seen = knows_all ranks start next permits fits rest k s v no_pass r at

    fit_now : v.loose ≡ false → Fit v s.words
    fit_now whole = subst (λ (z : ℕ × List E × List X). fits k z.0 s.words (state_after (next k) (start k) z.1) z.2)
        (λ z. (ap (λ (y : V). y.promise) (sym home) z, all_seen z, no_notes ranks start next permits fits rest k s v no_pass r at z)) (r.container (ap (λ (y : V). y.loose) (sym home) ∙ whole))

    words_are : (ws : List ℕ) → v.words ≡ Some ws → s.words ≡ ws
    words_are ws is = (r.known ws (ap (λ (y : V). y.words) (sym home) ∙ is)).0

    eased : (i n : ℕ) (words : Option (List ℕ)) (loose : Bool) (gets puts atomics : ℕ) → ((ws : List ℕ) → words ≡ Some ws → slice_set s.words i n ≡ ws) → (loose ≡ false → Fit v (slice_set s.words i n))
        → Rule (segment.stepped s i n 0 (eased_view v words loose gets puts atomics))
    eased i n words loose gets puts atomics known fit = let after : List ℕ = slice_set s.words i n in let no : r.home.passes ≡ 0 = none in record {
      home = eased_view r.home words loose gets puts atomics;
      others = r.others;
      history = r.history;
      late = r.late;
      notes = [];
      views = λ z. set (r.views z) 0 (eased_view (home z) words loose gets puts atomics);
      is_home = r.is_home;
      legal = r.legal;
      named = r.named;
      since = r.since;
      permitted = r.permitted;
      seen = r.seen;
      begun = r.begun;
      own = r.own;
      gone = r.gone;
      returned = r.returned;
      live = λ q u is lives. let below = (r.live q u is lives).0.1 in absurd (omega arith);
      apart = r.apart;
      few = r.few;
      known = λ ws is. (known ws is, no);
      counted = sym no;
      alone = λ _. no;
      container = λ is. subst (λ (z : ℕ × List E). fits k z.0 after (state_after (next k) (start k) z.1) []) (λ z. (ap (λ (y : V). y.promise) home z, sym all_seen z)) (fit is);
    }

    -- the phase is over, and the words are loose
    closed_loose : (i n : ℕ) → Rule (segment.stepped s i n 0 (loosened (slice_set s.words i n) (begins 0 v)))
    closed_loose i n = let after : List ℕ = slice_set s.words i n in let no : r.home.passes ≡ 0 = none in record {
      home = loosened after (begins 0 r.home);
      others = r.others;
      history = r.history;
      late = [];
      notes = [];
      views = λ z. set (r.views z) 0 (loosened after (begins 0 (home z)));
      is_home = r.is_home;
      legal = r.legal;
      named = r.named;
      since = all_seen ∙ (ap (λ (z : V). z.seen) home ∙ sym (append-nil r.home.seen));
      permitted = All-nil (IsPermitted ranks permits k 0);
      seen = r.seen;
      begun = prefix_refl r.home.seen;
      own = subst (λ (z : V). of z.rank z.seen ≡ z.mine) home (home_mine ranks start next permits fits rest k s v no_pass r at);
      gone = r.gone;
      returned = λ q p is. absurd (some-ne-none p (sym is));
      live = λ q u is lives. let below = (r.live q u is lives).0.1 in absurd (omega arith);
      apart = r.apart;
      few = r.few;
      known = λ ws is. (same_some after ws is, no);
      counted = sym no;
      alone = λ _. no;
      container = λ is. absurd (false≢true (sym is));
    }

  module _ (holds : K → S → Type 0) (from : (l : K) (s : S) → holds l s → Kept ranks start next permits fits l s) (back : (l : K) (s : S) → Kept ranks start next permits fits l s → holds l s) where
    -- what a home is told as it learns its words
    abbrev Learned : V → V → Type 0
    Learned v w = (ws : List ℕ) × (w ≡ knowing (Some ws) v) × ((vs : List ℕ) → v.words ≡ Some vs → ws ≡ vs) × ((l : K) → v.key ≡ Some l → fits l v.promise ws (state_after (next l) (start l) v.seen) [])

    pub learns : (seat : ℕ) (v : V) (i : ℕ) → seat ≡ 0 → v.passes ≡ 0 → v.loose ≡ false → v.key ≡ Some k → segment.Steps (holds k) seat v i (λ n. n) (λ _ w. Learned v w)
    learns seat v i zero_is no_pass whole key = subst (λ (z : ℕ). segment.Steps (holds k) z v i (λ n. n) (λ _ w. Learned v w)) (sym zero_is)
        (λ s kept at small. let r : Rule s = from k s kept in let n : ℕ = slice_index s.words i in let after : List ℕ = slice_set s.words i n in
        let same : after ≡ s.words = set-get_or s.words i 0 in let fit : Fit v after = subst (Fit v) (sym same) (fit_now s v no_pass r at whole) in (
          knowing (Some after) v,
          back k (segment.stepped s i n 0 (knowing (Some after) v)) (subst (λ (b : Bool). Rule (segment.stepped s i n 0 (eased_view v (Some after) b v.gets v.puts v.atomics))) (sym whole) (eased s v no_pass r at i n (Some after) false v.gets v.puts v.atomics (same_some after) (λ _. fit))),
          (
            after,
            refl,
            λ vs is. same ∙ words_are s v no_pass r at vs is,
            λ l is. subst (λ (z : K). fits z v.promise after (state_after (next z) (start z) v.seen) []) (same_some k l (sym key ∙ is)) fit,
          ),
        ))

    -- a look at a word that is known
    pub looks : (seat : ℕ) (v : V) (i : ℕ) → seat ≡ 0 → v.passes ≡ 0 → v.loose ≡ false → v.words ≡ Some (words_of v) → segment.Steps (holds k) seat v i (λ n. n) (λ n w. (w ≡ v) × (n ≡ slice_index (words_of v) i))
    looks seat v i zero_is no_pass whole known = subst (λ (z : ℕ). segment.Steps (holds k) z v i (λ n. n) (λ n w. (w ≡ v) × (n ≡ slice_index (words_of v) i))) (sym zero_is)
        (λ s kept at small. let r : Rule s = from k s kept in let n : ℕ = slice_index s.words i in
        let same : slice_set s.words i n ≡ s.words = set-get_or s.words i 0 in let are : s.words ≡ words_of v = words_are s v no_pass r at (words_of v) known in (
          v,
          back k (segment.stepped s i n 0 v) (subst (λ (z : Option (List ℕ) × Bool). Rule (segment.stepped s i n 0 (eased_view v z.0 z.1 v.gets v.puts v.atomics))) (λ z. (sym known z, sym whole z))
              (eased s v no_pass r at i n (Some (words_of v)) false v.gets v.puts v.atomics (λ ws is. same ∙ (are ∙ same_some (words_of v) ws is)) (λ _. subst (Fit v) (sym same) (fit_now s v no_pass r at whole)))),
          (refl, ap (λ (ws : List ℕ). slice_index ws i) are),
        ))

    pub forgets : (seat : ℕ) (v : V) (i : ℕ) → seat ≡ 0 → v.passes ≡ 0 → v.loose ≡ false → segment.Steps (holds k) seat v i (λ n. n) (λ _ w. w ≡ knowing None v)
    forgets seat v i zero_is no_pass whole = subst (λ (z : ℕ). segment.Steps (holds k) z v i (λ n. n) (λ _ w. w ≡ knowing None v)) (sym zero_is)
        (λ s kept at small. let r : Rule s = from k s kept in let n : ℕ = slice_index s.words i in
        let same : slice_set s.words i n ≡ s.words = set-get_or s.words i 0 in (
          knowing None v,
          back k (segment.stepped s i n 0 (knowing None v)) (subst (λ (b : Bool). Rule (segment.stepped s i n 0 (eased_view v None b v.gets v.puts v.atomics))) (sym whole)
              (eased s v no_pass r at i n None false v.gets v.puts v.atomics (λ ws is. absurd (none-some ws is)) (λ _. subst (Fit v) (sym same) (fit_now s v no_pass r at whole)))),
          refl,
        ))

    -- what a home is told as its words become loose
    abbrev Loosened : V → V → Type 0
    Loosened v w = (ws : List ℕ) × (w ≡ loosened ws v) × ((vs : List ℕ) → v.words ≡ Some vs → ws ≡ vs) × ((l : K) → v.key ≡ Some l → fits l v.promise ws (state_after (next l) (start l) v.seen) [])

    pub loosens : (seat : ℕ) (v : V) (i : ℕ) → seat ≡ 0 → v.passes ≡ 0 → v.loose ≡ false → v.key ≡ Some k → segment.Steps (holds k) seat v i (λ n. n) (λ _ w. Loosened v w)
    loosens seat v i zero_is no_pass whole key = subst (λ (z : ℕ). segment.Steps (holds k) z v i (λ n. n) (λ _ w. Loosened v w)) (sym zero_is)
        (λ s kept at small. let r : Rule s = from k s kept in let n : ℕ = slice_index s.words i in let after : List ℕ = slice_set s.words i n in (
          loosened after v,
          back k (segment.stepped s i n 0 (loosened after v)) (eased s v no_pass r at i n (Some after) true v.gets v.puts v.atomics (same_some after) (λ is. absurd (false≢true (sym is)))),
          (
            after,
            refl,
            λ vs is. set-get_or s.words i 0 ∙ words_are s v no_pass r at vs is,
            λ l is. subst (λ (z : K × List ℕ). fits z.0 v.promise z.1 (state_after (next z.0) (start z.0) v.seen) []) (λ z. (same_some k l (sym key ∙ is) z, sym (set-get_or s.words i 0) z)) (fit_now s v no_pass r at whole),
          ),
        ))

    -- a step of a home whose words are loose
    loose_steps : (seat : ℕ) (tick : Tick) (v : V) (i : ℕ) (f : ℕ → ℕ) (ws : List ℕ) → seat ≡ 0 → v.passes ≡ 0 → v.words ≡ Some ws
        → segment.Steps (holds k) seat v i f (λ n w. (w ≡ loose_after tick (slice_set ws i (f (slice_index ws i))) v) × (n ≡ slice_index ws i))
    loose_steps seat tick v i f ws zero_is no_pass known = subst (λ (z : ℕ). segment.Steps (holds k) z v i f (λ n w. (w ≡ loose_after tick (slice_set ws i (f (slice_index ws i))) v) × (n ≡ slice_index ws i))) (sym zero_is)
        (λ s kept at small. let r : Rule s = from k s kept in let n : ℕ = f (slice_index s.words i) in let same : s.words ≡ ws = words_are s v no_pass r at ws known in
        let w : V = loose_after tick (slice_set s.words i n) v in (
          w,
          back k (segment.stepped s i n 0 w) (eased s v no_pass r at i n (Some (slice_set s.words i n)) true w.gets w.puts w.atomics (same_some (slice_set s.words i n)) (λ is. absurd (false≢true (sym is)))),
          ((λ z. loose_after tick (slice_set (same z) i (f (slice_index (same z) i))) v), λ z. slice_index (same z) i),
        ))

    pub loose_gets : (seat : ℕ) (v : V) (i : ℕ) (ws : List ℕ) → seat ≡ 0 → v.passes ≡ 0 → v.words ≡ Some ws
        → segment.Steps (holds k) seat v i (λ n. n) (λ n w. (w ≡ loose_after get ws v) × (n ≡ slice_index ws i))
    loose_gets seat v i ws zero_is no_pass known s kept at small = let m = loose_steps seat get v i (λ n. n) ws zero_is no_pass known s kept at small in
        (m.0, m.1, (m.2.0 ∙ (λ z. loose_after get (set-get_or ws i 0 z) v), m.2.1))

    pub loose_puts : (seat : ℕ) (v : V) (i n : ℕ) (ws : List ℕ) → seat ≡ 0 → v.passes ≡ 0 → v.words ≡ Some ws
        → segment.Steps (holds k) seat v i (λ _. n) (λ _ w. w ≡ loose_after put (slice_set ws i n) v)
    loose_puts seat v i n ws zero_is no_pass known s kept at small = let m = loose_steps seat put v i (λ _. n) ws zero_is no_pass known s kept at small in (m.0, m.1, m.2.0)

    -- the words fit again
    pub mends : (seat : ℕ) (v : V) (i : ℕ) (ws : List ℕ) → seat ≡ 0 → v.passes ≡ 0 → v.words ≡ Some ws → Fit v ws → segment.Steps (holds k) seat v i (λ n. n) (λ _ w. w ≡ mended ws v)
    mends seat v i ws zero_is no_pass known fit = subst (λ (z : ℕ). segment.Steps (holds k) z v i (λ n. n) (λ _ w. w ≡ mended ws v)) (sym zero_is)
        (λ s kept at small. let r : Rule s = from k s kept in let n : ℕ = slice_index s.words i in
        let same : slice_set s.words i n ≡ ws = set-get_or s.words i 0 ∙ words_are s v no_pass r at ws known in (
          mended (slice_set s.words i n) v,
          back k (segment.stepped s i n 0 (mended (slice_set s.words i n) v)) (eased s v no_pass r at i n (Some (slice_set s.words i n)) false v.gets v.puts v.atomics (same_some (slice_set s.words i n)) (λ _. subst (Fit v) (sym same) fit)),
          (λ z. mended (same z) v),
        ))

    -- what a home is told whose passes came back, as its words become loose
    abbrev ClosedLoose : V → V → Type 0
    ClosedLoose v w = (ws : List ℕ) × (w ≡ loosened ws (begins 0 v)) × ((l : K) → v.key ≡ Some l → Ends ranks start next permits l v × fits l v.promise ws (state_after (next l) (start l) v.seen) [])

    pub closes_loose : (seat : ℕ) (v : V) (i : ℕ) → seat ≡ 0 → v.passes ≡ 0 → v.loose ≡ false → v.key ≡ Some k → segment.Steps (holds k) seat v i (λ n. n) (λ _ w. ClosedLoose v w)
    closes_loose seat v i zero_is no_pass whole key = subst (λ (z : ℕ). segment.Steps (holds k) z v i (λ n. n) (λ _ w. ClosedLoose v w)) (sym zero_is)
        (λ s kept at small. let r : Rule s = from k s kept in let n : ℕ = slice_index s.words i in let after : List ℕ = slice_set s.words i n in (
          loosened after (begins 0 v),
          back k (segment.stepped s i n 0 (loosened after (begins 0 v))) (closed_loose s v no_pass r at i n),
          (
            after,
            refl,
            λ l is. subst (λ (z : K × List ℕ). Ends ranks start next permits z.0 v × fits z.0 v.promise z.1 (state_after (next z.0) (start z.0) v.seen) []) (λ z. (same_some k l (sym key ∙ is) z, sym (set-get_or s.words i 0) z))
                (ended ranks start next permits fits rest k s v no_pass r at, fit_now s v no_pass r at whole),
          ),
        ))

    -- what a home is told of a put by which its words fit again, and which makes calls
    abbrev pub MendTold : (T → List C → Type 0) → V → ℕ → ℕ → V → Type 0
    MendTold F v i n w = (l : K) → v.key ≡ Some l → (did : List C) × F (state_after (next l) (start l) v.seen) did × (w ≡ record (gone_on put v (events (next l) v.rank (state_after (next l) (start l) v.seen) did) (slice_set (words_of v) i n)) { loose = false }) × IsLegal (next l) (start l) w.seen

    pub mend_calls : (seat : ℕ) (v : V) (i n : ℕ) (F : T → List C → Type 0) → seat ≡ 0 → v.passes ≡ 0 → v.key ≡ Some k → v.words ≡ Some (words_of v)
        → (did : List C) → fits k v.promise (slice_set (words_of v) i n) (state_by (next k) (state_after (next k) (start k) v.seen) did) [] → F (state_after (next k) (start k) v.seen) did
        → segment.Steps (holds k) seat v i (λ _. n) (λ _ w. MendTold F v i n w)
    mend_calls seat v i n F zero_is no_pass key known did fit fact = subst (λ (z : ℕ). segment.Steps (holds k) z v i (λ _. n) (λ _ w. MendTold F v i n w)) (sym zero_is)
        (λ s kept at small. let r : Rule s = from k s kept in let same : s.words ≡ words_of v = words_are s v no_pass r at (words_of v) known in
        let t : T = state_after (next k) (start k) v.seen in
        let es : List E = events (next k) v.rank t did in
        let legal : IsLegal (next k) (start k) (v.seen ++ es) = legal-append (next k) (start k) v.seen es (subst (IsLegal (next k) (start k)) (knows_all ranks start next permits fits rest k s v no_pass r at) r.legal) (legal_events (next k) v.rank t did) in
        let after : state_after (next k) (start k) (v.seen ++ es) ≡ state_by (next k) t did = after-append (next k) (start k) v.seen es ∙ after_events (next k) v.rank t did in
        let w : V = record (gone_on put v es (slice_set s.words i n)) { loose = false } in (
          w,
          back k (segment.stepped s i n 0 w) (went_on ranks start next permits fits rest k s v no_pass r at false put i n did
              (λ _. subst (λ (z : List ℕ × T). fits k v.promise (slice_set z.0 i n) z.1 []) (λ z. (sym same z, sym after z)) fit) legal),
          λ l is. subst (λ (z : K). (d : List C) × F (state_after (next z) (start z) v.seen) d × (w ≡ record (gone_on put v (events (next z) v.rank (state_after (next z) (start z) v.seen) d) (slice_set (words_of v) i n)) { loose = false }) × IsLegal (next z) (start z) w.seen)
              (same_some k l (sym key ∙ is)) (did, fact, (λ z. record (gone_on put v es (slice_set (same z) i n)) { loose = false }), legal),
        ))

    -- the two puts of a pair: the second makes the calls
    pub pair_puts : (seat : ℕ) (v u : V) (i n j m : ℕ) (ws : List ℕ) (F : T → List C → Type 0) → seat ≡ 0 → v.passes ≡ 0 → v.key ≡ Some k → u ≡ loose_after put (slice_set ws i n) (loosened ws v) → ((vs : List ℕ) → v.words ≡ Some vs → ws ≡ vs) → v.promise ≡ 0 → Fit v ws → Pairs next permits fits k v.words i n j m F
        → segment.Steps (holds k) seat u j (λ _. m) (λ _ w. MendTold F u j m w)
    pair_puts seat v u i n j m ws F zero_is no_pass key is known at_home fit pairs =
        let t : T = state_after (next k) (start k) v.seen in
        let b = pairs ws t known (subst (λ (z : ℕ). fits k z ws t []) at_home fit) in
        subst (λ (z : V). segment.Steps (holds k) seat z j (λ _. m) (λ _ w. MendTold F z j m w)) (sym is)
        (mend_calls seat (loose_after put (slice_set ws i n) (loosened ws v)) j m F zero_is no_pass key refl b.0 (subst (λ (z : ℕ). fits k z (slice_set (slice_set ws i n) j m) (state_by (next k) t b.0) []) (sym at_home) b.1) b.2)
