-- The first put of a word of a new value, over the value of a key that is there, under Own.
use Rattle.std.proofs.Common.{◌≡◌, ◌≢◌, ℕ, suc, ◌+◌, ◌*◌, ◌<◌, ◌≤◌, inl, inr, List, [], ◌∷◌, length, take, set, get_or, slice_index, slice_set, refl, sym, ap, ◌∙◌, subst, ⊎_elim, arith, Some, length-set}
use Rattle.std.specs.Prelude.{Bool, true, IsSome}
use Rattle.std.proofs.lemmas.List.Elements.{All-nil, All-cons}
use Rattle.std.specs.List.{All}
use native.Mathlib.Decide.{ℕ_discrete}
use mathlib.Core.Logic.{dite}
use mathlib.Core.Option.{some, some-ne-none, some-injective}
use lib.ListN.{get_elem?}
use Rattle.bcl_words.specs.Words.{IsWords}
use Rattle.bcl_event.specs.History.{state_by}
use Rattle.bcl_event.specs.declared.map.MapCall.{MapCall}
use Rattle.bcl_event.specs.declared.map.MapReply.TheVariants.{Replaced}
use Rattle.bcl_event.specs.Map.{Pairs, value_at, with_value}
use Rattle.bcl_event.specs.Stored.{Stores as HasStored}
use Rattle.bcl_event.proofs.Values.{value_stores}
use Rattle.bcl_phase.specs.Rule.{Moves}
use Rattle.bcl_map.specs.declared.shape.Shape.{Shape}
use Rattle.bcl_map.specs.declared.note.Lock.TheVariants.{Shown as shown}
use Rattle.bcl_map.specs.declared.note.Before.TheVariants.{Value as before}
use Rattle.bcl_map.specs.Map.{places, Words, Lawful, finding, owning, filling, home, path, next, permits, size, word, Lies, content}
use Rattle.bcl_map.specs.Cells.{Cell, free, kept, busy, key_of, used, IsSettled}
use Rattle.bcl_map.specs.Notes.{Claim, passed, keyed, alike, settled, certain, lacking, lent, grips, many, met, Note, Has, reads, reads_all, readers, Says, AllSay}
use Rattle.bcl_map.specs.Fits.{MayWrite, Named, IsContent, PlaceOk, Fits, fits, AreTyped, Holds}
use Rattle.bcl_map.specs.Steps.{with_claims, Step}
use Rattle.bcl_map.specs.Finds.{MaySee, reading}
use Rattle.bcl_map.specs.Inserts.{writing, Replaces}
use Rattle.bcl_map.proofs.Keys.{same_or_not, same_place}
use Rattle.bcl_map.proofs.Counts.{set_here, bars_key, in_use}
use Rattle.bcl_map.proofs.Frames.{SameAt, readers_stay, Stays, here, changes}
use Rattle.bcl_map.proofs.Gets.{near}
use Rattle.bcl_map.proofs.Finds.{ArePlain, none_grips, none_writes, key_word, value_word, own_words}
use Rattle.bcl_map.proofs.Writes.{holds_step, typed_stored, that_word, same_word, same_words}

-- ---- under Own no place has readers

module _ (L : Shape) (t : Pairs) (cells : List Cell) (q i : ℕ) where
  unread : (a : Claim) → Says L owning t cells q a → reads i a ≡ 0
  unread (passed k d) h = refl
  unread (keyed k d) h = refl
  unread (alike k d g) h = refl
  unread (settled k d) h = refl
  unread (certain k v) h = refl
  unread (lacking k) h = refl
  unread (lent j k v) h = let w : owning ≡ filling = h.0 in absurd (omega arith)
  unread (grips j l k old v n) h = refl
  unread (many b) h = refl
  unread (met j b) h = refl

  all_unread : (as' : List Claim) → AllSay L owning t cells q as' → reads_all i as' ≡ 0
  all_unread [] h = refl
  all_unread (a ∷ as') h = let one = unread a h.0 in let others = all_unread as' h.1 in omega arith

no_readers : (i : ℕ) (notes : List Note) → ((q : ℕ) (x : Note) → get_elem? notes q ≡ some x → reads_all i x.claims ≡ 0) → readers i notes ≡ 0
no_readers i [] h = refl
no_readers i (x ∷ xs) h = let one = h 0 x refl in let others = no_readers i xs (λ q z e. h (suc q) z e) in omega arith

-- ---- the claims of other ranks stay, as a place is turned to another value of its key, which this rank alone may change

value_stays : (kw vw : ℕ) (L : Shape) (i r q : ℕ) (t t' : Pairs) (cells : List Cell) (k v : Words) (c : Cell) → key_of c ≡ some k → IsSettled c → home L k ≡ r → q ≢ r → HasStored k v t t' 0
    → (a : Claim) → Says L owning t cells q a → Stays kw vw L q i t t' (kept k) c a
value_stays kw vw L i r q t t' cells k v c same set own ne st (passed o d) h = λ z. bars_key o k c same z
value_stays kw vw L i r q t t' cells k v c same set own ne st (keyed o d) h = λ z. same ∙ z
value_stays kw vw L i r q t t' cells k v c same set own ne st (alike o d g) h = λ _ _ z. same ∙ z
value_stays kw vw L i r q t t' cells k v c same set own ne st (settled o d) h = λ _. set
value_stays kw vw L i r q t t' cells k v c same set own ne st (certain o u) h = λ z. st.others o (λ alike'. ⊎_elim
    (λ (w : owning ≡ finding). absurd (omega arith))
    (λ (w : (owning ≡ owning) × (home L o ≡ q)). ne (sym w.1 ∙ (ap (home L) alike' ∙ own))) h.0) ∙ z
value_stays kw vw L i r q t t' cells k v c same set own ne st (lacking o) h = λ none has. none (same_place o t t' (st.others o (λ alike'. ⊎_elim
    (λ (w : owning ≡ finding). absurd (omega arith))
    (λ (w : (owning ≡ owning) × (home L o ≡ q)). ne (sym w.1 ∙ (ap (home L) alike' ∙ own))) h.0)) has)
value_stays kw vw L i r q t t' cells k v c same set own ne st (lent j o u) h = let w : owning ≡ filling = h.0 in absurd (omega arith)
value_stays kw vw L i r q t t' cells k v c same set own ne st (grips j l o old u n) h = λ _ z. absurd cc
value_stays kw vw L i r q t t' cells k v c same set own ne st (many b) h = λ z. let m = st.keys in omega arith
value_stays kw vw L i r q t t' cells k v c same set own ne st (met j b) h = ((λ _ z. let m = st.keys in let one = in_use c k same in omega arith), (let m = st.keys in omega arith))

-- ---- the step

module _ (kw vw : ℕ) (key value : List ℕ → Bool) (op : Words → Words → Words) (L : Shape) (law : Lawful L) (r : ℕ) (c : MapCall Words Words) (k v : Words) (d : ℕ) (own : home L k ≡ r) (may : permits L owning r c) (old : Words) where
  replaces : (x : Note) → ((t : Pairs) → value_at k t ≡ Some old → next op L t c ≡ (Replaced, with_value k v t)) → kw ≤ 8 → 1 ≤ vw → IsWords kw k → IsWords vw v → key k ≡ true → value v ≡ true → x.claims ≡ reading k d old
      → Step kw vw op L owning r x (size kw vw * path L k d + (1 + kw)) (λ _. slice_index v 0) (λ _ t did y. Replaces kw vw op L c k v d old x t did y × (AreTyped key value t → AreTyped key value (state_by (next op L) t did)))
  replaces x stores width some_words long_k long_v typed_k typed_v at_claims ws t notes is f small = dite (ℕ_discrete 1 vw) last more
    where
      i : ℕ
      i = path L k d

      w : ℕ
      w = size kw vw * path L k d + (1 + kw)

      m : ℕ
      m = slice_index v 0

      us : List ℕ
      us = set ws w m

      t' : Pairs
      t' = with_value k v t

      tells : ℕ → Pairs → List (MapCall Words Words) → Note → Type 0
      tells _ s did y = Replaces kw vw op L c k v d old x s did y × (AreTyped key value s → AreTyped key value (state_by (next op L) s did))

      Outcome : Type 0
      Outcome = (did : List (MapCall Words Words)) × (y : Note) × All (permits L owning r) did × fits kw vw L owning (slice_set ws w m) (state_by (next op L) t did) (set notes r y) × tells (slice_index ws w) t did y

      l : i < places L
      l = near L law k d

      knew : AllSay L owning t f.cells r (reading k d old)
      knew = subst (AllSay L owning t f.cells r) at_claims (f.noted r x is)

      there : key_of (get_or f.cells i free) ≡ some k
      there = knew.0

      was : value_at k t ≡ Some old
      was = knew.1.0.1

      plain : ArePlain (reading k d old)
      plain = (tt, (tt, tt))

      see : MaySee L owning r k
      see = inr (refl, own)

      -- no rank writes the place: this one has no grip of it, and no other may
      whole_there : (a : Cell) → key_of a ≡ some k → IsContent kw vw L owning ws t notes i a → a ≡ kept k
      whole_there free g ok = absurd (some-ne-none k (sym g))
      whole_there (kept o) g ok = ap kept (some-injective o k g)
      whole_there (busy lo q o w' u n) g ok = let same = some-injective o k g in
          absurd (none_writes kw vw op L law owning r k d see x (reading k d old) at_claims plain ws t notes is k refl i lo q w' u n (subst (λ (z : Words). MayWrite kw vw L owning lo q z n) same ok.4) (subst (λ (z : Words). Named kw vw L notes q i lo z w' u n) same ok.5))

      e : get_or f.cells i free ≡ kept k
      e = whole_there (get_or f.cells i free) there (f.each i l).content

      ok : PlaceOk kw vw L owning ws t notes i (kept k)
      ok = subst (PlaceOk kw vw L owning ws t notes i) e (f.each i l)

      was_old : ok.content.0 ≡ old
      was_old = let same : Some ok.content.0 ≡ Some old = sym ok.content.1.2 ∙ was in cc

      old_lies : Lies kw vw ws i (content kw vw k old) (kw + vw)
      old_lies = subst (λ (z : Words). Lies kw vw ws i (content kw vw k z) (kw + vw)) was_old ok.content.2

      says : next op L t c ≡ (Replaced, with_value k v t)
      says = stores t was

      st : HasStored k v t t' 0
      st = value_stores k v t (subst IsSome (sym was) refl)

      after : t' ≡ state_by (next op L) t (c ∷ [])
      after j = (sym says j).1

      none_there : readers i notes ≡ 0
      none_there = no_readers i notes (λ q u g. all_unread L t f.cells q i u.claims (f.noted q u g))

      same_at : (claims : List Claim) → ((j : ℕ) → reads_all j claims ≡ 0) → (j : ℕ) → SameAt j x (with_claims x claims)
      same_at claims none_read j = (none_read j ∙ sym (ap (reads_all j) at_claims), λ lo a w' u g h. absurd (none_grips j lo a w' u g (reading k d old) plain (subst (Has (grips j lo a w' u g)) at_claims h)))

      still : (claims : List Claim) → ((j : ℕ) → reads_all j claims ≡ 0) → readers i (set notes r (with_claims x claims)) ≡ 0
      still claims none_read = readers_stay notes r i x (with_claims x claims) is (same_at claims none_read i) ∙ none_there

      -- the words of the content, up to the first one of the value
      key_long : length (take kw k) ≡ kw
      key_long = own_words kw k width long_k

      same_key : (b : ℕ) → b < kw → slice_index (content kw vw k old) b ≡ slice_index (content kw vw k v) b
      same_key b less = let within : b < length (take kw k) = subst (λ (z : ℕ). b < z) (sym key_long) less in key_word kw vw k old b less within ∙ sym (key_word kw vw k v b less within)

      first_word : m ≡ slice_index (content kw vw k v) kw
      first_word = let none : kw + 0 ≡ kw = omega arith in sym (value_word kw vw k v key_long 0 (omega arith)) ∙ ap (slice_index (content kw vw k v)) none

      lies : Lies kw vw us i (content kw vw k v) (kw + 1)
      lies b lb = dite (ℕ_discrete b kw)
          (λ (same : b ≡ kw). ap (λ (z : ℕ). word kw vw us i (1 + z)) same ∙ (that_word kw vw L owning ws t notes f i (1 + kw) w m l (omega arith) refl ∙ (first_word ∙ ap (slice_index (content kw vw k v)) (sym same))))
          (λ ne. let less : b < kw = omega arith in same_word kw vw L ws i (1 + b) (1 + kw) w m refl (λ z. omega arith) ∙ (old_lies b (omega arith) ∙ same_key b less))

      behind : (b : ℕ) → kw + 1 ≤ b → b < kw + vw → word kw vw us i (1 + b) ≡ slice_index (content kw vw k old) b
      behind b le lt = same_word kw vw L ws i (1 + b) (1 + kw) w m refl (λ z. omega arith) ∙ old_lies b lt

      shows : (z : ℕ) → z ≡ 0 → word kw vw us i 0 ≡ 2 + home L k * 256 + z * 65536
      shows z is_zero = same_word kw vw L ws i 0 (1 + kw) w m refl (λ z. omega arith) ∙ (ok.shows ∙ ap (λ (s : ℕ). 2 + home L k * 256 + s * 65536) (none_there ∙ sym is_zero))

      shows_alone : word kw vw us i 0 ≡ 2 + home L k * 256
      shows_alone = shows 0 refl ∙ omega arith

      turns : (a : Cell) (claims : List Claim) → key_of a ≡ some k → used a ≡ 1 → IsSettled a → ((j : ℕ) → reads_all j claims ≡ 0) → PlaceOk kw vw L owning us t' (set notes r (with_claims x claims)) i a
          → AllSay L owning t' (set f.cells i a) r claims → Replaces kw vw op L c k v d old x t (c ∷ []) (with_claims x claims) → Outcome
      turns a claims same one settled_there none_read place said told = (
        c ∷ [],
        with_claims x claims,
        All-cons (permits L owning r) c [] may (All-nil (permits L owning r)),
        subst (λ (s : Pairs). Fits kw vw L owning us s (set notes r (with_claims x claims))) after
            (changes kw vw L owning ws us t t' notes f r x (with_claims x claims) i a is (λ j _. same_at claims none_read j) l (length-set ws w m) (same_words kw vw L ws i (1 + kw) w m (omega arith) refl)
            place
            (λ j q ne g. st.others q (λ z. ne (f.once j i k (g ∙ ap some z) there)))
            (let had : used (get_or f.cells i free) ≡ 1 = ap used e in let keys = st.keys in omega arith)
            (let had : used (get_or f.cells i free) ≡ 1 = ap used e in omega arith)
            (λ q _ g. same ∙ (sym there ∙ g))
            (λ j q g g'. f.once i j q (there ∙ (sym same ∙ g)) g')
            (λ q has. inr (⊎_elim
            (λ (z : q ≡ k). f.placed q (old, ap (λ (o : Words). value_at o t) z ∙ was))
            (λ ne. f.placed q (same_place q t t' (st.others q ne) has)) (same_or_not q k)))
            (λ q u s ne at_q has h. subst (λ (z : Cell). Stays kw vw L q i t t' z a s) (sym e) (value_stays kw vw L i r q t t' f.cells k v a same settled_there own ne st s h))
            said (λ j. let z = none_read j in omega arith)),
        (told, λ typed. subst (AreTyped key value) after (typed_stored key value k v t t' 0 st typed_k typed_v typed)),
      )

      more : 1 ≢ vw → Outcome
      more ne = let claims : List Claim = writing L k d (before old) v (kw + 1) in let a : Cell = busy shown r k (before old) v (kw + 1) in let room : length f.cells ≡ places L = f.room in
          turns a claims refl refl (λ z. cc) (λ _. refl)
          (record {
            shows = shows_alone;
            read = still claims (λ _. refl);
            content = ((long_k, long_v, st.there), lies, omega arith, behind, (refl, own), record { note = with_claims x claims; there = set_here notes r (with_claims x claims) x is; says = inl refl });
          })
          (here kw vw L f.cells i a (omega arith), tt)
          (record { more = λ _. (refl, (λ j. (says j).0), refl); all = λ z. absurd (ne z) })

      last : 1 ≡ vw → Outcome
      last all = turns (kept k) [] refl refl tt (λ _. refl)
          (record {
            shows = shows (readers i (set notes r (with_claims x []))) (still [] (λ _. refl));
            read = tt;
            content = (v, (long_k, long_v, st.there), λ b lb. lies b (omega arith));
          })
          tt
          (record { more = λ z. absurd (omega arith); all = λ _. (refl, (λ j. (says j).0), refl) })

  -- the first put of the words of a value; the call stores v where the old value is there
  pub replace_step : (w n : ℕ) (x : Note) → ((t : Pairs) → value_at k t ≡ Some old → next op L t c ≡ (Replaced, with_value k v t)) → kw ≤ 8 → 1 ≤ vw → IsWords kw k → IsWords vw v → key k ≡ true → value v ≡ true
      → x.claims ≡ reading k d old → w ≡ size kw vw * path L k d + (1 + kw) → n ≡ slice_index v 0
      → Moves (next op) permits (Holds kw vw key value) L owning r x w (λ _. n) (λ _. Replaces kw vw op L c k v d old x)
  replace_step w n x stores width some_words long_k long_v typed_k typed_v at_claims at_word is_word =
      subst (λ (z : ℕ × ℕ). Moves (next op) permits (Holds kw vw key value) L owning r x z.0 (λ _. z.1) (λ _. Replaces kw vw op L c k v d old x)) (λ j. (sym at_word j, sym is_word j))
      (holds_step kw vw key value op L owning r x _ (λ _. slice_index v 0) (λ _. Replaces kw vw op L c k v d old x) (replaces x stores width some_words long_k long_v typed_k typed_v at_claims))
