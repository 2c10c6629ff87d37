-- How the steps of a call go on from one another along a path, and what it costs.
use Rattle.std.proofs.Common.{◌≡◌, ◌≢◌, ℕ, zero, suc, ◌+◌, ◌<◌, ◌≤◌, ◌⊎◌, inl, inr, ⊎_elim, List, [], ◌∷◌, ◌++◌, length, drop, slice_index, cond, Bool, true, false, true≢false, refl, sym, ap, ap₂, ◌∙◌, subst, arith, le_trans, le_refl, eq-eqb}
use Rattle.std.specs.Prelude.{max}
use Rattle.std.proofs.Math.Nat.{le-max_left, le-max_right, max-le}
use Rattle.std.proofs.Math.Seq.{drop-append_seam}
use Rattle.std.proofs.lemmas.List.{append_cancel_right}
use mathlib.Core.List.{IsPrefix, append_assoc, append_cancel_left}
use Rattle.bcl_event.specs.History.{event, of, state_after, IsLegal, events}
use Rattle.bcl_event.specs.declared.map.MapCall.{MapCall}
use Rattle.bcl_event.specs.declared.map.MapReply.{MapReply}
use Rattle.bcl_event.specs.declared.map.MapReply.TheVariants.{New, Replaced}
use Rattle.bcl_event.specs.Map.{Pairs}
use Rattle.bcl_phase.specs.Views.{Tick, get, put, atomic, seen_by}
use Rattle.bcl_phase.specs.Told.{Took, Told}
use Rattle.bcl_phase.specs.Stands.{Still}
use Rattle.bcl_phase.proofs.Calls.{still_by, still_trans, stands_one, stands_behind, stands_still}
use Rattle.bcl_phase.proofs.Prefixes.{of-append, legal_first}
use Rattle.bcl_map.specs.declared.shape.Shape.{Shape}
use Rattle.bcl_map.specs.declared.note.Note.{Note}
use Rattle.bcl_map.specs.declared.note.Before.{Before}
use Rattle.bcl_map.specs.declared.note.Before.TheVariants.{Nothing, Value as before}
use Rattle.bcl_map.specs.Map.{Words, ranks, first_pairs, next, permits}
use Rattle.bcl_map.specs.Notes.{Claim, alike}
use Rattle.bcl_map.specs.Steps.{Goes_on}
use Rattle.bcl_map.specs.Finds.{reading, value_of}
use Rattle.bcl_map.specs.Walking as steps
use Rattle.bcl_map.specs.Walking.{Walker, walked, heading, matching, facing, strays, least, SeesControl, SeesKey}
use Rattle.bcl_map.specs.Inserts.{writing, Takes, PutsWord, Replaces}
use Rattle.bcl_map.specs.Calls.{MapView, Stands}
use Rattle.bcl_map.specs.Costs.{Events, is_new, others_new, taken, keys}
use Rattle.bcl_map.specs.Reaches.{KnowsOwn, IsHeading, IsMatching, level, Comes, Ends, IsFacing, IsFree, IsPast, Meets}
use Rattle.bcl_map.proofs.Known.{walked_least}
use Rattle.bcl_map.proofs.Taken.{others_more, keys_rise, keys_past}

-- ---- what the claims of a walk say

strays_heading : (s : Bool) (k : Words) (d b : ℕ) → strays (heading s k d b) ≡ s
strays_heading true k d b = refl
strays_heading false k zero b = refl
strays_heading false k (suc d) b = refl

heading_again : (s : Bool) (k : Words) (d b : ℕ) → heading s k d b ≡ heading (strays (heading s k d b)) k d (least (heading s k d b))
heading_again true k d b = refl
heading_again false k zero b = refl
heading_again false k (suc d) b = refl

is_heading : (claims : List Claim) (s : Bool) (k : Words) (d b : ℕ) → claims ≡ heading s k d b → claims ≡ heading (strays claims) k d (least claims)
is_heading claims s k d b e = subst (λ (z : List Claim). z ≡ heading (strays z) k d (least z)) (sym e) (heading_again s k d b)

is_matching : (claims : List Claim) (s : Bool) (k : Words) (d g b : ℕ) → claims ≡ matching s k d g b → claims ≡ matching (strays claims) k d g (least claims)
is_matching claims s k d g b e = subst (λ (z : List Claim). z ≡ matching (strays z) k d g (least z)) (sym e) (ap (λ (z : List Claim). alike k d g ∷ z) (heading_again s k d b))

-- with no free place met they say of no number of keys
heading_none : (claims : List Claim) (k : Words) (d : ℕ) → claims ≡ heading (strays claims) k d (least claims) → strays claims ≡ false → least claims ≡ 0
heading_none claims k d at fresh = ap least (at ∙ ap (λ (z : Bool). heading z k d (least claims)) fresh) ∙ walked_least k d

matching_none : (claims : List Claim) (k : Words) (d g : ℕ) → claims ≡ matching (strays claims) k d g (least claims) → strays claims ≡ false → least claims ≡ 0
matching_none claims k d g at fresh = ap least (at ∙ ap (λ (z : Bool). matching z k d g (least claims)) fresh) ∙ walked_least k d

not_strayed : {P : Type 0} (b : Bool) → b ≡ true → b ≡ false → P
not_strayed b is not = absurd (true≢false (sym is ∙ not))

-- ---- sums

chained : (a b c x y z : ℕ) → a + y ≤ b + x → b + z ≤ c + y → a + z ≤ c + x
chained a b c x y z h k = omega arith

chained_end : (a b c x y z n : ℕ) → a + y ≤ b + x → b + z ≤ c + y + n → a + z ≤ c + x + n
chained_end a b c x y z n h k = omega arith

more_count : (x y n : ℕ) → x ≡ y → x ≤ y + n
more_count x y n e = omega arith

-- what a pass knows of its own rank it knew before steps that make no call
knows_before : (u v : MapView) → Still u v → KnowsOwn v → KnowsOwn u
knows_before u v still own = (λ i. of (sym still.same.same_rank i) (sym still.seen i)) ∙ (own ∙ still.mine)

module _ (op : Words → Words → Words) (L : Shape) where
  -- ---- one behind another

  pub comes_trans : (u v w : MapView) → Comes op L u v → Comes op L v w → Comes op L u w
  comes_trans u v w first second = record {
    still = still_trans u v w first.still second.still;
    own = second.own;
    many = chained (level op L u) (level op L v) (level op L w) u.atomics v.atomics w.atomics first.many second.many;
    fresh = λ none. let s = second.fresh none in let f = first.fresh s.0 in (f.0, s.1 ∙ f.1);
  }

  pub ends_behind : (c : MapCall Words Words) (a : MapReply Words) (u v w : MapView) → Comes op L u v → Ends op L c a v w → Ends op L c a u w
  ends_behind c a u v w comes ends = let same = comes.still.same.same_rank in record {
    stands = subst (λ (r : ℕ). Stands op L u w (event r c a ∷ [])) same (stands_behind ranks first_pairs (next op) permits L u v w _ comes.still ends.stands);
    before = ends.before;
    last = ends.last ∙ ap (λ (r : ℕ). ends.before ++ event r c a ∷ []) same;
    many = chained_end (level op L u) (level op L v) (keys op L ends.before) u.atomics v.atomics w.atomics (is_new a) comes.many ends.many;
    own = inr (knows_before u v comes.still comes.own);
  }

  -- steps that make neither a call nor an exchange come after
  pub ends_still : (c : MapCall Words Words) (a : MapReply Words) (u v w : MapView) → Ends op L c a u v → Still v w → w.atomics ≡ v.atomics → Ends op L c a u w
  ends_still c a u v w ends still same = record {
    stands = stands_still ranks first_pairs (next op) permits L u v w _ ends.stands still;
    before = ends.before;
    last = still.seen ∙ ends.last;
    many = subst (λ (n : ℕ). level op L u + n ≤ keys op L ends.before + u.atomics + is_new a) (sym same) ends.many;
    own = ⊎_elim (λ (e : v.atomics ≡ u.atomics). inl (same ∙ e)) (λ (own : KnowsOwn u). inr own) ends.own;
  }

  -- gets that are no call, by which nothing more is known
  pub comes_still : (u v w : MapView) → Comes op L u v → Still v w → w.atomics ≡ v.atomics → w.note.claims ≡ v.note.claims → Comes op L u w
  comes_still u v w comes still atomics claims = record {
    still = still_trans u v w comes.still still;
    own = ap₂ of still.same.same_rank still.seen ∙ (comes.own ∙ sym still.mine);
    many = subst (λ (z : ℕ × ℕ). level op L u + z.0 ≤ z.1 + u.atomics) (λ i. (sym atomics i, sym level_same i)) comes.many;
    fresh = λ none. let f = comes.fresh (ap strays (sym claims) ∙ none) in (f.0, atomics ∙ f.1);
  }
    where
      level_same : level op L w ≡ level op L v
      level_same = ap₂ (λ (seen : Events) (as' : List Claim). max (keys op L seen) (least as')) still.seen claims

  pub past_behind : (c : Walker) (k : Words) (d : ℕ) (u v w : MapView) → Comes op L u v → IsPast op L c k d v w → IsPast op L c k d u w
  past_behind c k d u v w comes past = record {
    on = λ more. let on = past.on more in (comes_trans u v w comes on.0, on.1);
    ends = λ last. let end = past.ends last in (ends_behind c.call c.past u v w comes end.0, end.1);
  }

  -- ---- by one step

  -- where it is told how many keys there are, or nothing was told before, the level doesn't fall
  level_by : (s : Bool) (v w : MapView) (history : Events) → IsPrefix v.seen history → w.seen ≡ v.seen → least v.note.claims ≤ keys op L history → (s ≡ false → least v.note.claims ≡ 0) → (s ≡ true → least w.note.claims ≡ keys op L history)
      → level op L v ≤ level op L w
  level_by true v w history known same many none some =
      le_trans (max-le (keys_rise op L v.seen history known) many) (subst (λ (n : ℕ). n ≤ level op L w) (some refl) (le-max_right (keys op L w.seen) (least w.note.claims)))
  level_by false v w history known same many none some =
      let seen : keys op L v.seen ≤ level op L w = subst (λ (z : Events). keys op L z ≤ level op L w) same (le-max_left (keys op L w.seen) (least w.note.claims)) in
      max-le seen (subst (λ (n : ℕ). n ≤ level op L w) (sym (none refl)) (omega arith))

  module _ (v w : MapView) where
    -- a step that makes a call
    ends_by : (tick : Tick) (then : ℕ → Pairs → List (MapCall Words Words) → Note → Type 0) (n : ℕ) (c : MapCall Words Words) (a : MapReply Words) → Took ranks first_pairs (next op) permits L tick v w → (told : Told first_pairs (next op) L v then n w)
        → told.did ≡ c ∷ [] → (next op L (state_after (next op L) (first_pairs L) told.history) c).0 ≡ a → least v.note.claims ≤ keys op L told.history → w.atomics ≤ v.atomics + is_new a → (w.atomics ≡ v.atomics) ⊎ KnowsOwn v → Ends op L c a v w
    ends_by tick then n c a took told one reply many few own = let t : Pairs = state_after (next op L) (first_pairs L) told.history in record {
      stands = stands_one ranks first_pairs (next op) permits L tick v w then n c a took told one reply;
      before = told.history;
      last = told.seen ∙ (ap (λ (did : List (MapCall Words Words)). seen_by v.seen told.history (events (next op L) v.rank t did)) one ∙ ap (λ (z : MapReply Words). told.history ++ event v.rank c z ∷ []) reply);
      many = summed (level op L v) (keys op L told.history) w.atomics v.atomics (is_new a) (max-le (keys_rise op L v.seen told.history told.known) many) few;
      own = own;
    }
      where
        summed : (l b x y n : ℕ) → l ≤ b → x ≤ y + n → l + x ≤ b + y + n
        summed l b x y n h k = omega arith

    module _ (then : ℕ → Pairs → List (MapCall Words Words) → Note → Type 0) (n : ℕ) (took : Took ranks first_pairs (next op) permits L get v w) (told : Told first_pairs (next op) L v then n w) (many : least v.note.claims ≤ keys op L told.history) where
      -- a get that makes none
      comes_by : (s : Bool) → told.did ≡ [] → (s ≡ false → least v.note.claims ≡ 0) → (s ≡ true → least w.note.claims ≡ keys op L told.history) → (strays w.note.claims ≡ false → strays v.note.claims ≡ false) → Comes op L v w
      comes_by s no_call none some fresh = let still = still_by ranks first_pairs (next op) permits L get v w then n took told no_call in record {
        still = still;
        own = took.own;
        many = summed (level op L v) (level op L w) w.atomics v.atomics (level_by s v w told.history told.known still.seen many none some) took.atomics_rise;
        fresh = λ none_strayed. (fresh none_strayed, took.atomics_rise);
      }
        where
          summed : (l m x y : ℕ) → l ≤ m → x ≡ y → l + x ≤ m + y
          summed l m x y h k = omega arith

      -- a get that goes on, where a free place was met before or not
      module _ (s : Bool) (same : strays v.note.claims ≡ s) (none : s ≡ false → least v.note.claims ≡ 0) (k : Words) (d : ℕ) where
        heading_by : Goes_on v.note (heading s k (suc d) (keys op L told.history)) told.did w.note → Comes op L v w × IsHeading k (suc d) w
        heading_by on = let claims : w.note.claims ≡ heading s k (suc d) (keys op L told.history) = ap (λ (x : Note). x.claims) on.1 in (
          comes_by s on.0 none (λ is. ap least claims ∙ ap (λ (z : Bool). least (heading z k (suc d) (keys op L told.history))) is) (λ fresh. same ∙ (sym (strays_heading s k (suc d) (keys op L told.history)) ∙ (sym (ap strays claims) ∙ fresh))),
          is_heading w.note.claims s k (suc d) (keys op L told.history) claims,
        )

        goes_to : (g : ℕ) → Goes_on v.note (matching s k d g (keys op L told.history)) told.did w.note → Comes op L v w × IsMatching k d g w
        goes_to g on = let claims : w.note.claims ≡ matching s k d g (keys op L told.history) = ap (λ (x : Note). x.claims) on.1 in (
          comes_by s on.0 none (λ is. ap least claims ∙ ap (λ (z : Bool). least (matching z k d g (keys op L told.history))) is) (λ fresh. same ∙ (sym (strays_heading s k d (keys op L told.history)) ∙ (sym (ap strays claims) ∙ fresh))),
          is_matching w.note.claims s k d g (keys op L told.history) claims,
        )

        goes_past : (kw vw : ℕ) (c : Walker) → steps.GoesPast kw vw op L c s k d v.note (state_after (next op L) (first_pairs L) told.history) told.did w.note → IsPast op L c k d v w
        goes_past kw vw c past = record {
          on = λ more. heading_by (past.on more);
          ends = λ last. let end = past.ends last in (ends_by get then n c.call c.past took told end.0 end.1 many (more_count w.atomics v.atomics (is_new c.past) took.atomics_rise) (inl took.atomics_rise), ap (λ (x : Note). x.claims) end.2);
        }

        meets : (kw vw : ℕ) (c : Walker) (control : ℕ) → steps.Meets kw vw op L c s k d v.note control (state_after (next op L) (first_pairs L) told.history) told.did w.note → Meets op L c k d control v w
        meets kw vw c control tells = record {
          same_home = λ is. goes_to 0 (tells.same_home is);
          other_home = λ not. goes_past kw vw c (tells.other_home not);
        }

  module _ (kw vw : ℕ) (c : Walker) (k : Words) (d : ℕ) (v w : MapView) where
    -- a get of a control word
    pub free_by : (strayed : Bool) (n : ℕ) → Took ranks first_pairs (next op) permits L get v w → Told first_pairs (next op) L v (SeesControl kw vw op L c strayed k d v.note) n w
        → n ≡ 0 → IsFree op L c k d v w
    free_by strayed n took told free = let sees = told.fact.free free in record {
      ends = λ stops. let end = sees.ends stops in (ends_by v w get _ n c.call c.past took told end.0 end.1 told.fact.many (more_count w.atomics v.atomics (is_new c.past) took.atomics_rise) (inl took.atomics_rise), ap (λ (x : Note). x.claims) end.2);
      on = λ goes. let on = sees.on goes in let claims : w.note.claims ≡ facing L k d (keys op L told.history) = ap (λ (x : Note). x.claims) on.1 in (
        comes_by v w _ n took told told.fact.many true on.0 (λ no. absurd (true≢false no)) (λ _. ap least claims) (not_strayed (strays w.note.claims) (ap strays claims)),
        (
          subst (λ (z : List Claim). z ≡ facing L k d (least z)) (sym claims) refl,
          subst (λ (n : ℕ). keys op L w.seen ≤ n) (sym (ap least claims)) (subst (λ (z : Events). keys op L z ≤ keys op L told.history) (sym (still_by ranks first_pairs (next op) permits L get v w _ n took told on.0).seen) (keys_rise op L v.seen told.history told.known)),
        ),
      );
    }

    pub meets_by : (n e : ℕ) → Took ranks first_pairs (next op) permits L get v w → IsHeading k e v → Told first_pairs (next op) L v (SeesControl kw vw op L c (strays v.note.claims) k d v.note) n w
        → n ≢ 0 → Meets op L c k d n v w
    meets_by n e took at told used = meets v w _ n took told told.fact.many (strays v.note.claims) refl (heading_none v.note.claims k e at) k d kw vw c n (told.fact.used used)

    -- a get of a word of a key
    module _ (g n : ℕ) (took : Took ranks first_pairs (next op) permits L get v w) (at : IsMatching k d g v) (told : Told first_pairs (next op) L v (SeesKey kw vw op L c (strays v.note.claims) k d g v.note) n w) where
      pub matching_by : n ≡ slice_index k g → suc g < kw → Comes op L v w × IsMatching k d (suc g) w
      matching_by same less = goes_to v w _ n took told told.fact.many (strays v.note.claims) refl (matching_none v.note.claims k d g at) k d (suc g) (told.fact.more same less)

      pub reading_by : n ≡ slice_index k g → suc g ≡ kw → Comes op L v w × (w.note.claims ≡ reading k d (value_of w.note.claims))
      reading_by same last = let on = told.fact.all same last in let claims : w.note.claims ≡ reading k d on.0 = ap (λ (x : Note). x.claims) on.1.1 in (
        comes_by v w _ n took told told.fact.many false on.1.0 (λ _. matching_none v.note.claims k d g at on.2) (λ no. absurd (true≢false (sym no))) (λ _. on.2),
        subst (λ (z : List Claim). z ≡ reading k d (value_of z)) (sym claims) refl,
      )

      pub past_by : n ≢ slice_index k g → IsPast op L c k d v w
      past_by other = goes_past v w _ n took told told.fact.many (strays v.note.claims) refl (matching_none v.note.claims k d g at) k d kw vw c (told.fact.other other)

  module _ (kw vw : ℕ) (c : MapCall Words Words) (k : Words) (d : ℕ) (v w : MapView) where
    -- the exchange
    module _ (value : Words) (n : ℕ) (took : Took ranks first_pairs (next op) permits L atomic v w) (own : KnowsOwn v) (at : IsFacing op L k d v) (told : Told first_pairs (next op) L v (Takes kw vw op L c k value d v.note) n w) where
      pub won_by : n ≡ 0 → Ends op L c New v w × (w.note.claims ≡ writing L k d Nothing value 0)
      won_by free = let end = told.fact.won free in
          (ends_by v w atomic _ n c New took told end.0 end.1 told.fact.many (one_more w.atomics v.atomics took.atomics_rise) (inr own), ap (λ (x : Note). x.claims) end.2)
        where
          one_more : (x y : ℕ) → x ≡ y + 1 → x ≤ y + 1
          one_more x y e = omega arith

      pub lost_by : n ≢ 0 → Comes op L v w × IsHeading k (suc d) w
      lost_by used = let on = told.fact.lost used in let claims : w.note.claims ≡ heading true k (suc d) (suc (least v.note.claims)) = ap (λ (x : Note). x.claims) on.1 in (
        record {
          still = still_by ranks first_pairs (next op) permits L atomic v w _ n took told on.0;
          own = took.own;
          many = summed (level op L v) (level op L w) (least v.note.claims) w.atomics v.atomics (max-le at.1 (le_refl (least v.note.claims))) (subst (λ (m : ℕ). m ≤ level op L w) (ap least claims) (le-max_right (keys op L w.seen) (least w.note.claims))) took.atomics_rise;
          fresh = not_strayed (strays w.note.claims) (ap strays claims);
        },
        is_heading w.note.claims true k (suc d) (suc (least v.note.claims)) claims,
      )
        where
          summed : (l m b x y : ℕ) → l ≤ b → suc b ≤ m → x ≡ y + 1 → l + x ≤ m + y
          summed l m b x y h k e = omega arith

    -- a put of a word that makes no call
    pub put_more : (value : Words) (old : Before) (b n : ℕ) → Took ranks first_pairs (next op) permits L put v w → Told first_pairs (next op) L v (λ _. PutsWord kw vw op L k value d old b v.note) n w
        → suc b < kw + vw → Still v w × (w.note.claims ≡ writing L k d old value (suc b))
    put_more value old b n took told less = let on = told.fact.more less in (still_by ranks first_pairs (next op) permits L put v w _ n took told on.0, ap (λ (x : Note). x.claims) on.1)

    pub put_all : (value : Words) (old : Before) (b n : ℕ) → Took ranks first_pairs (next op) permits L put v w → Told first_pairs (next op) L v (λ _. PutsWord kw vw op L k value d old b v.note) n w
        → suc b ≡ kw + vw → Still v w × (w.note.claims ≡ [])
    put_all value old b n took told last = let on = told.fact.all last in (still_by ranks first_pairs (next op) permits L put v w _ n took told on.0, ap (λ (x : Note). x.claims) on.1)

    -- the put that replaces a value
    module _ (value old : Words) (n : ℕ) (took : Took ranks first_pairs (next op) permits L put v w) (reads : least v.note.claims ≡ 0) (told : Told first_pairs (next op) L v (λ _. Replaces kw vw op L c k value d old v.note) n w) where
      replaced_by : told.did ≡ c ∷ [] → (next op L (state_after (next op L) (first_pairs L) told.history) c).0 ≡ Replaced → Ends op L c Replaced v w
      replaced_by one reply = ends_by v w put _ n c Replaced took told one reply (none (least v.note.claims) (keys op L told.history) reads) (more_count w.atomics v.atomics 0 took.atomics_rise) (inl took.atomics_rise)
        where
          none : (x y : ℕ) → x ≡ 0 → x ≤ y
          none x y e = omega arith

      pub replaced_more : 1 < vw → Ends op L c Replaced v w × (w.note.claims ≡ writing L k d (before old) value (kw + 1))
      replaced_more words = let end = told.fact.more words in (replaced_by end.0 end.1, ap (λ (x : Note). x.claims) end.2)

      pub replaced_all : 1 ≡ vw → Ends op L c Replaced v w × (w.note.claims ≡ [])
      replaced_all words = let end = told.fact.all words in (replaced_by end.0 end.1, ap (λ (x : Note). x.claims) end.2)

  -- ---- what it costs

  -- of the exchanges at most as many are lost as other ranks inserted keys since the pass had last seen the history
  pub covered : (c : MapCall Words Words) (a : MapReply Words) (u w : MapView) → Ends op L c a u w → w.atomics ≤ u.atomics + (taken u w + is_new a)
  covered c a u w ends = ⊎_elim (λ (same : w.atomics ≡ u.atomics). none_lost w.atomics u.atomics (taken u w) (is_new a) same) some_lost ends.own
    where
      none_lost : (x y t n : ℕ) → x ≡ y → x ≤ y + (t + n)
      none_lost x y t n e = omega arith

      summed : (l old new x y n late t : ℕ) → l + x ≤ new + y + n → old ≤ l → new ≡ old + late → late ≤ t → x ≤ y + (t + n)
      summed l old new x y n late t most low past more = omega arith

      some_lost : KnowsOwn u → w.atomics ≤ u.atomics + (taken u w + is_new a)
      some_lost own =
          let e = event u.rank c a in
          let stands = ends.stands in
          let same_before : stands.before ≡ ends.before = append_cancel_right stands.before ends.before (e ∷ []) (sym stands.last ∙ ends.last) in
          let behind : IsPrefix u.seen ends.before = subst (IsPrefix u.seen) same_before stands.behind in
          let late : Events = behind.0 in
          let whole : w.seen ≡ u.seen ++ (late ++ e ∷ []) = ends.last ∙ (ap (λ (z : Events). z ++ e ∷ []) (sym behind.1) ∙ append_assoc u.seen late (e ∷ [])) in
          let all : of u.rank w.seen ≡ u.mine ++ e ∷ [] = ap (λ (r : ℕ). of r w.seen) (sym stands.same.same_rank) ∙ (stands.own ∙ stands.mine) in
          let one : of u.rank (e ∷ []) ≡ e ∷ [] = ap (λ (b : Bool). cond b (e ∷ []) []) (eq-eqb u.rank u.rank refl) in
          let split : of u.rank (u.seen ++ (late ++ e ∷ [])) ≡ u.mine ++ (of u.rank late ++ e ∷ []) =
          of-append u.rank u.seen (late ++ e ∷ []) ∙ (λ i. own i ++ (of-append u.rank late (e ∷ []) ∙ ap (λ (z : Events). of u.rank late ++ z) one) i) in
          let none : of u.rank late ≡ [] = append_cancel_right (of u.rank late) [] (e ∷ []) (append_cancel_left u.mine (of u.rank late ++ e ∷ []) (e ∷ []) (sym split ∙ (ap (of u.rank) (sym whole) ∙ all))) in
          let legal : IsLegal (next op L) (first_pairs L) (u.seen ++ late) =
          legal_first (next op L) (first_pairs L) (u.seen ++ late) (e ∷ []) (subst (IsLegal (next op L) (first_pairs L)) (whole ∙ sym (append_assoc u.seen late (e ∷ []))) stands.legal) in
          let past : keys op L ends.before ≡ keys op L u.seen + others_new u.rank late = ap (keys op L) (sym behind.1) ∙ keys_past op L u.rank u.seen late none legal in
          let told : taken u w ≡ others_new u.rank (late ++ e ∷ []) = ap (others_new u.rank) (ap (drop (length u.seen)) whole ∙ drop-append_seam u.seen (late ++ e ∷ [])) in
          let more : others_new u.rank late ≤ taken u w = subst (λ (n : ℕ). others_new u.rank late ≤ n) (sym told) (others_more u.rank late (e ∷ [])) in
          summed (level op L u) (keys op L u.seen) (keys op L ends.before) w.atomics u.atomics (is_new a) (others_new u.rank late) (taken u w) ends.many (le-max_left (keys op L u.seen) (least u.note.claims)) past more
