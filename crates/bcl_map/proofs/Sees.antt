-- The gets of a walk, whichever the call is.
use Rattle.std.proofs.Common.{◌≡◌, ◌≢◌, ℕ, zero, suc, ◌+◌, ◌-◌, ◌*◌, ◌%◌, ◌<◌, ◌≤◌, List, [], ◌∷◌, length, get_or, slice_index, slice_set, refl, sym, ap, ap₂, ◌∙◌, subst, ⊎_elim, arith, Some, true≢false, mod-lt}
use Rattle.std.specs.Prelude.{Bool, true, false}
use Rattle.std.specs.List.{All}
use Rattle.std.proofs.lemmas.List.Elements.{All-nil, All-cons}
use Rattle.std.proofs.lemmas.Bool.{cases_lt, cases_Bool}
use Rattle.std.proofs.Math.Nat.{mod-eq_of_lt, add-mod, mod_self}
use native.Mathlib.Decide.{ℕ_discrete}
use mathlib.Core.Logic.{dite}
use mathlib.Core.Option.{some}
use lib.ListN.{get_elem?}
use Rattle.bcl_words.specs.Words.{IsWords}
use Rattle.bcl_event.specs.History.{state_by}
use Rattle.bcl_event.specs.declared.map.MapCall.{MapCall}
use Rattle.bcl_event.specs.declared.map.MapReply.{MapReply}
use Rattle.bcl_event.specs.Map.{Pairs, value_at}
use Rattle.bcl_phase.specs.Rule.{Moves}
use Rattle.bcl_map.specs.declared.shape.Shape.{Shape}
use Rattle.bcl_map.specs.Map.{places, Words, Lawful, begins_at, home, path, next, permits, HasPlace, size, tag}
use Rattle.bcl_map.specs.Cells.{Cell, free, key_of, used, Bars, control}
use Rattle.bcl_map.specs.Notes.{Claim, passed, Knows, Note, readers, Says, AllSay}
use Rattle.bcl_map.specs.Fits.{HasValue, PlaceOk, Fits, AreTyped, Holds}
use Rattle.bcl_map.specs.Steps.{with_claims, Step, Answers, control_at}
use Rattle.bcl_map.specs.Finds.{MaySee, reading}
use Rattle.bcl_map.specs.Walking.{Walker, IsAnswered, heading, matching, facing, least, GoesPast, Meets, SeesControl, SeesKey}
use Rattle.bcl_map.proofs.Keys.{no_value}
use Rattle.bcl_map.proofs.Counts.{bars_key, bars_used, is_full}
use Rattle.bcl_map.proofs.Known.{heading_knows, walked_least, knows_passed}
use Rattle.bcl_map.proofs.Gets.{near, shows_tag, absent_behind, absent_at_end, passed_more, gets}
use Rattle.bcl_map.proofs.Finds.{ArePlain, plain_same, walked_plain, key_word, own_words, same_object, by_cell, on, whole}

-- ---- each place is on a path

once_round : (n i : ℕ) → i < n → (i + n) % n ≡ i
once_round n i below = let same : i + 0 ≡ i = omega arith in add-mod i n n ∙ (ap₂ (λ (a b : ℕ). (a + b) % n) (mod-eq_of_lt below) (mod_self n) ∙ (ap (λ (a : ℕ). a % n) same ∙ mod-eq_of_lt below))

on_path : (n first i : ℕ) → first < n → i < n → (e : ℕ) × (e < n) × ((first + e) % n ≡ i)
on_path n first i low below = ⊎_elim
    (λ (less : i < first). let at : first + (i + n - first) ≡ i + n = omega arith in (i + n - first, omega arith, ap (λ (a : ℕ). a % n) at ∙ once_round n i below))
    (λ (most : first ≤ i). let at : first + (i - first) ≡ i = omega arith in (i - first, omega arith, ap (λ (a : ℕ). a % n) at ∙ mod-eq_of_lt below))
    (cases_lt i first)

-- ---- the claims of a walk

heading_plain : (strayed : Bool) (k : Words) (d b : ℕ) → ArePlain (heading strayed k d b)
heading_plain false k d b = walked_plain k d
heading_plain true k d b = (tt, (tt, (tt, tt)))

module _ (L : Shape) (p : ℕ) (t : Pairs) (cells : List Cell) (r : ℕ) (k : Words) where
  heading_passed : (strayed : Bool) (d b : ℕ) → AllSay L p t cells r (heading strayed k d b) → Says L p t cells r (passed k d)
  heading_passed strayed d b says = knows_passed L p t cells r k d (heading strayed k d b) says (heading_knows strayed k d b)

  -- at another place, with another number of keys
  heading_on : (strayed : Bool) (d b d' b' : ℕ) → AllSay L p t cells r (heading strayed k d b) → Says L p t cells r (passed k d') → b' ≤ length t → AllSay L p t cells r (heading strayed k d' b')
  heading_on false d b zero b' says passes enough = tt
  heading_on false d b (suc d') b' says passes enough = (passes, tt)
  heading_on true d b d' b' says passes enough = (passes, (enough, says.1.1))

  heading_least : (strayed : Bool) (d b : ℕ) → AllSay L p t cells r (heading strayed k d b) → least (heading strayed k d b) ≤ length t
  heading_least false d b says = let none = walked_least k d in omega arith
  heading_least true d b says = says.1.0

  -- a key that is there was not found to be lacking
  unstrayed : (strayed : Bool) (d b : ℕ) (u : Words) → AllSay L p t cells r (heading strayed k d b) → value_at k t ≡ Some u → strayed ≡ false
  unstrayed false d b u says e = refl
  unstrayed true d b u says e = absurd (says.1.1.0.1 (u, e))

-- ---- a map that is full

module _ (kw vw : ℕ) (L : Shape) (law : Lawful L) (p : ℕ) (ws : List ℕ) (t : Pairs) (notes : List Note) (f : Fits kw vw L p ws t notes) (k : Words) where
  -- as all places of the path are in use
  all_used : ((e : ℕ) → e < places L → Bars k (get_or f.cells (path L k e) free)) → length t ≡ places L
  all_used bars = sym f.as_many ∙ (is_full f.cells one ∙ f.room)
    where
      one : (i : ℕ) → i < length f.cells → used (get_or f.cells i free) ≡ 1
      one i low = let at = on_path (places L) (begins_at L k) i (mod-lt _ law.some_place) (subst (λ (n : ℕ). i < n) f.room low) in
          subst (λ (z : ℕ). used (get_or f.cells z free) ≡ 1) at.2 (bars_used k (get_or f.cells (path L k at.0) free) (bars at.0 at.1))

-- ---- the steps

module _ (kw vw : ℕ) (op : Words → Words → Words) (L : Shape) (law : Lawful L) (p r : ℕ) (c : Walker) (k : Words) (d : ℕ) (sure : MaySee L p r k) (may : permits L p r c.call) (answered : IsAnswered c k) where
  one_call : All (permits L p r) (c.call ∷ [])
  one_call = All-cons (permits L p r) c.call [] may (All-nil (permits L p r))

  module _ (x : Note) (as' : List Claim) (at : x.claims ≡ as') (plain : ArePlain as') (ws : List ℕ) (t : Pairs) (notes : List Note) (is : get_elem? notes r ≡ some x) (f : Fits kw vw L p ws t notes) (w : ℕ)
      (strayed : Bool) (b : ℕ) (says : AllSay L p t f.cells r (heading strayed k d b)) where
    abbrev Outcome : (ℕ → Pairs → List (MapCall Words Words) → Note → Type 0) → Type 0
    Outcome tells = (did : List (MapCall Words Words)) × (y : Note) × All (permits L p r) did × Fits kw vw L p (slice_set ws w (slice_index ws w)) (state_by (next op L) t did) (slice_set notes r y) × tells (slice_index ws w) t did y

    -- the walk ends without the key
    answers : (tells : ℕ → Pairs → List (MapCall Words Words) → Note → Type 0) → (HasPlace k t → ⊥) → (c.stops ≡ false → length t ≡ places L)
        → (state_by (next op L) t (c.call ∷ []) ≡ t → Answers kw vw op L c.call c.past x [] t (c.call ∷ []) (with_claims x []) → tells (slice_index ws w) t (c.call ∷ []) (with_claims x [])) → Outcome tells
    answers tells none full told =
        let end : next op L t c.call ≡ (c.past, t) = answered op L t (no_value k t none) full in
        let stays : state_by (next op L) t (c.call ∷ []) ≡ t = ap (λ (z : MapReply Words × Pairs). z.1) end in
        gets L law kw vw op p r x w tells ws t notes f (with_claims x []) (c.call ∷ []) is (plain_same x as' [] at plain tt) tt (λ j. refl) one_call stays (told stays (refl, ap (λ (z : MapReply Words × Pairs). z.0) end, refl))

    -- the place has another key
    past : (tells : ℕ → Pairs → List (MapCall Words Words) → Note → Type 0) → Bars k (get_or f.cells (path L k d) free)
        → ((did : List (MapCall Words Words)) (y : Note) → state_by (next op L) t did ≡ t → GoesPast kw vw op L c strayed k d x t did y → tells (slice_index ws w) t did y) → Outcome tells
    past tells bars told = ⊎_elim
        (λ (less : suc d < places L). on kw vw op L law p r k d sure x as' at plain ws t notes is f w tells (heading strayed k (suc d) (length t)) (heading_plain strayed k (suc d) (length t))
        (heading_on L p t f.cells r k strayed d b (suc d) (length t) says more (omega arith))
        (told [] (with_claims x (heading strayed k (suc d) (length t))) refl (record { on = λ _. (refl, refl); ends = λ over. absurd (omega arith) })))
        (λ (most : places L ≤ suc d). let each : (e : ℕ) → e < places L → Bars k (get_or f.cells (path L k e) free) = λ e below. more e (omega arith) in
        answers tells (absent_at_end L law kw vw p ws t notes f k each) (λ _. all_used kw vw L law p ws t notes f k each)
        (λ stays says. told (c.call ∷ []) (with_claims x []) stays (record { on = λ under. absurd (omega arith); ends = λ _. says })))
        (cases_lt (suc d) (places L))
      where
        more : Says L p t f.cells r (passed k (suc d))
        more = passed_more L law p t f.cells r k d (heading_passed L p t f.cells r k strayed d b says) bars

    -- the place is in use
    meets : (tells : ℕ → Pairs → List (MapCall Words Words) → Note → Type 0) (o : Words) → key_of (get_or f.cells (path L k d) free) ≡ some o → tag (slice_index ws w) ≡ home L o
        → ((did : List (MapCall Words Words)) (y : Note) → state_by (next op L) t did ≡ t → Meets kw vw op L c strayed k d x (slice_index ws w) t did y → tells (slice_index ws w) t did y) → Outcome tells
    meets tells o there tag_is told = dite (ℕ_discrete (home L o) (home L k))
        (λ (same : home L o ≡ home L k). on kw vw op L law p r k d sure x as' at plain ws t notes is f w tells (matching strayed k d 0 (length t)) (tt, heading_plain strayed k d (length t))
        ((o, there, same, (λ g l. absurd (omega arith))), heading_on L p t f.cells r k strayed d b d (length t) says (heading_passed L p t f.cells r k strayed d b says) (omega arith))
        (told [] (with_claims x (matching strayed k d 0 (length t))) refl (record { same_home = λ _. (refl, refl); other_home = λ no. absurd (no (tag_is ∙ same)) })))
        (λ (ne : home L o ≢ home L k). past tells (bars_key k o (get_or f.cells (path L k d) free) there (λ z. ne (ap (home L) z)))
        (λ did y still goes. told did y still (record { same_home = λ z. absurd (ne (sym tag_is ∙ z)); other_home = λ _. goes })))

  sees_control : (strayed : Bool) (e : ℕ) (x : Note) → d ≤ e → x.claims ≡ heading strayed k e (least x.claims) → Step kw vw op L p r x (control_at kw vw op L k d) (λ n. n) (SeesControl kw vw op L c strayed k d x)
  sees_control strayed e x upto at ws t notes is f small =
      let w : ℕ = control_at kw vw op L k d in
      let b : ℕ = least x.claims in
      let ok : PlaceOk kw vw L p ws t notes (path L k d) (get_or f.cells (path L k d) free) = f.each (path L k d) (near L law k d) in
      let knew : AllSay L p t f.cells r (heading strayed k e b) = subst (AllSay L p t f.cells r) at (f.noted r x is) in
      let enough : b ≤ length t = subst (λ (n : ℕ). n ≤ length t) (sym (ap least at)) (heading_least L p t f.cells r k strayed e b knew) in
      let passes : Says L p t f.cells r (passed k d) = λ a below. heading_passed L p t f.cells r k strayed e b knew a (omega arith) in
      let says : AllSay L p t f.cells r (heading strayed k d b) = heading_on L p t f.cells r k strayed e b d b knew passes enough in
      let plain = heading_plain strayed k e b in
      by_cell (get_or f.cells (path L k d) free) _
      (λ (hollow : get_or f.cells (path L k d) free ≡ free).
      let zero_there : slice_index ws w ≡ 0 = ok.shows ∙ ap (control L (readers (path L k d) notes)) hollow in
      let none : used (get_or f.cells (path L k d) free) ≡ 0 = ap used hollow in
      let lacks : HasPlace k t → ⊥ = absent_behind L law kw vw p ws t notes f k d passes none in
      let known : Knows k (suc d) x.claims → slice_index ws w ≢ 0 = λ knows. absurd (subst (Bars k) hollow (knows_passed L p t f.cells r k (suc d) x.claims (f.noted r x is) knows d (omega arith))) in
      ⊎_elim
      (λ (stops : c.stops ≡ true). answers x (heading strayed k e b) at plain ws t notes is f w strayed b says (SeesControl kw vw op L c strayed k d x) lacks (λ on. absurd (true≢false (sym stops ∙ on)))
      (λ stays says. record { still = stays; many = enough; some = known; free = λ _. record { ends = λ _. says; on = λ on. absurd (true≢false (sym stops ∙ on)) }; used = λ no. absurd (no zero_there) }))
      (λ (goes : c.stops ≡ false). on kw vw op L law p r k d sure x (heading strayed k e b) at plain ws t notes is f w (SeesControl kw vw op L c strayed k d x) (facing L k d (length t)) (tt, (tt, (tt, tt)))
      (passes, (omega arith, ((sure, lacks), tt)))
      (record { still = refl; many = enough; some = known; free = λ _. record { ends = λ stops. absurd (true≢false (sym stops ∙ goes)); on = λ _. (refl, refl) }; used = λ no. absurd (no zero_there) }))
      (cases_Bool c.stops))
      (λ (o : Words) (there : key_of (get_or f.cells (path L k d) free) ≡ some o).
      let shown_there = shows_tag L law (readers (path L k d) notes) (get_or f.cells (path L k d) free) o there in
      let some_there : slice_index ws w ≢ 0 = λ z. shown_there.0 (sym ok.shows ∙ z) in
      let tag_is : tag (slice_index ws w) ≡ home L o = ap tag ok.shows ∙ shown_there.1 in
      meets x (heading strayed k e b) at plain ws t notes is f w strayed b says (SeesControl kw vw op L c strayed k d x) o there tag_is
      (λ did y still met. record { still = still; many = enough; some = λ _. some_there; free = λ z. absurd (some_there z); used = λ _. met }))

  sees_key : (strayed : Bool) (g : ℕ) (x : Note) → kw ≤ 8 → IsWords kw k → g < kw → x.claims ≡ matching strayed k d g (least x.claims) → Step kw vw op L p r x (size kw vw * path L k d + (1 + g)) (λ n. n) (SeesKey kw vw op L c strayed k d g x)
  sees_key strayed g x room key_words low at ws t notes is f small =
      let i : ℕ = path L k d in
      let w : ℕ = size kw vw * path L k d + (1 + g) in
      let b : ℕ = least x.claims in
      let plain : ArePlain (matching strayed k d g b) = (tt, heading_plain strayed k d b) in
      let says : AllSay L p t f.cells r (matching strayed k d g b) = subst (AllSay L p t f.cells r) at (f.noted r x is) in
      let enough : b ≤ length t = subst (λ (n : ℕ). n ≤ length t) (sym (ap least at)) (heading_least L p t f.cells r k strayed d b says.1) in
      let passes : Says L p t f.cells r (passed k d) = heading_passed L p t f.cells r k strayed d b says.1 in
      let o : Words = says.0.0 in
      let there : key_of (get_or f.cells i free) ≡ some o = says.0.1 in
      let got = whole kw vw op L law p r k d sure x (matching strayed k d g b) at plain ws t notes is o says.0.2 i (get_or f.cells i free) there (f.each i (near L law k d)).content in
      let u : Words = got.0 in
      let valued : HasValue kw vw L t o u = got.1 in
      let word_is : slice_index ws w ≡ slice_index o g = got.2 g (omega arith) ∙ key_word kw vw o u g low (subst (λ (n : ℕ). g < n) (sym (own_words kw o room valued.0)) low) in
      dite (ℕ_discrete (slice_index o g) (slice_index k g))
      (λ (agree : slice_index o g ≡ slice_index k g).
      let all_agree : (a : ℕ) → a < suc g → slice_index o a ≡ slice_index k a = λ a below. dite (ℕ_discrete a g) (λ (e : a ≡ g). ap (slice_index o) e ∙ (agree ∙ ap (slice_index k) (sym e))) (λ ne. says.0.3 a (omega arith)) in
      dite (ℕ_discrete (suc g) kw)
      (λ (last : suc g ≡ kw).
      let is_key : o ≡ k = same_object kw o k valued.0 key_words (λ a below. all_agree a (omega arith)) in
      let value_there : value_at k t ≡ Some u = subst (λ (z : Words). value_at z t ≡ Some u) is_key valued.2 in
      on kw vw op L law p r k d sure x (matching strayed k d g b) at plain ws t notes is f w (SeesKey kw vw op L c strayed k d g x) (reading k d u) (tt, (tt, tt)) (there ∙ ap some is_key, ((sure, value_there), tt)) (record {
        still = refl;
        many = enough;
        more = λ _ less. absurd (omega arith);
        all = λ _ _. (u, (refl, refl), unstrayed L p t f.cells r k strayed d b u says.1 value_there);
        other = λ no. absurd (no (word_is ∙ agree));
      }))
      (λ ne. on kw vw op L law p r k d sure x (matching strayed k d g b) at plain ws t notes is f w (SeesKey kw vw op L c strayed k d g x) (matching strayed k d (suc g) (length t)) (tt, heading_plain strayed k d (length t))
      ((o, there, says.0.2, all_agree), heading_on L p t f.cells r k strayed d b d (length t) says.1 passes (omega arith)) (record {
        still = refl;
        many = enough;
        more = λ _ _. (refl, refl);
        all = λ _ last. absurd (ne last);
        other = λ no. absurd (no (word_is ∙ agree));
      })))
      (λ (ne : slice_index o g ≢ slice_index k g).
      past x (matching strayed k d g b) at plain ws t notes is f w strayed b says.1 (SeesKey kw vw op L c strayed k d g x) (bars_key k o (get_or f.cells i free) there (λ z. ne (ap (λ (l : Words). slice_index l g) z)))
      (λ did y still goes. record {
        still = still;
        many = enough;
        more = λ e _. absurd (ne (sym word_is ∙ e));
        all = λ e _. absurd (ne (sym word_is ∙ e));
        other = λ _. goes;
      }))

-- ---- with the types of keys and values

-- the state stays, and so do its types
still_step : (kw vw : ℕ) (key value : List ℕ → Bool) (op : Words → Words → Words) (L : Shape) (p r : ℕ) (x : Note) (i : ℕ) (tells : ℕ → Pairs → List (MapCall Words Words) → Note → Type 0)
    → ((n : ℕ) (t : Pairs) (did : List (MapCall Words Words)) (y : Note) → tells n t did y → state_by (next op L) t did ≡ t)
    → Step kw vw op L p r x i (λ n. n) tells → Moves (next op) permits (Holds kw vw key value) L p r x i (λ n. n) tells
still_step kw vw key value op L p r x i tells stays step ws t xs is h small = let s = step ws t xs is h.places small in
    (s.0, s.1, s.2, record { places = s.3; typed = subst (AreTyped key value) (sym (stays _ _ _ _ s.4)) h.typed }, s.4)

module _ (kw vw : ℕ) (key value : List ℕ → Bool) (op : Words → Words → Words) (L : Shape) (law : Lawful L) (p r : ℕ) (c : Walker) (k : Words) (d : ℕ) (sure : MaySee L p r k) (may : permits L p r c.call) (answered : IsAnswered c k) where
  -- a get of a control word
  pub see_step : (strayed : Bool) (e w : ℕ) (x : Note) → d ≤ e → x.claims ≡ heading strayed k e (least x.claims) → w ≡ size kw vw * path L k d + 0
      → Moves (next op) permits (Holds kw vw key value) L p r x w (λ n. n) (SeesControl kw vw op L c strayed k d x)
  see_step strayed e w x upto at is = subst (λ (z : ℕ). Moves (next op) permits (Holds kw vw key value) L p r x z (λ n. n) (SeesControl kw vw op L c strayed k d x)) (sym is)
      (still_step kw vw key value op L p r x _ (SeesControl kw vw op L c strayed k d x) (λ n t did y told. told.still) (sees_control kw vw op L law p r c k d sure may answered strayed e x upto at))

  -- a get of a word of a key
  pub match_step : (strayed : Bool) (g w : ℕ) (x : Note) → kw ≤ 8 → IsWords kw k → g < kw → x.claims ≡ matching strayed k d g (least x.claims) → w ≡ size kw vw * path L k d + (1 + g)
      → Moves (next op) permits (Holds kw vw key value) L p r x w (λ n. n) (SeesKey kw vw op L c strayed k d g x)
  match_step strayed g w x room is_key low at is = subst (λ (z : ℕ). Moves (next op) permits (Holds kw vw key value) L p r x z (λ n. n) (SeesKey kw vw op L c strayed k d g x)) (sym is)
      (still_step kw vw key value op L p r x _ (SeesKey kw vw op L c strayed k d g x) (λ n t did y told. told.still) (sees_key kw vw op L law p r c k d sure may answered strayed g x room is_key low at))
