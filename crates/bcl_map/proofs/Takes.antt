-- The exchange of a control word from FREE to READY, under Own.
use Rattle.std.proofs.Common.{◌≡◌, ◌≢◌, ℕ, suc, ◌+◌, ◌*◌, ◌<◌, ◌≤◌, inl, inr, List, [], ◌∷◌, length, set, get_or, slice_index, slice_set, refl, sym, ap, ◌∙◌, subst, ⊎_elim, arith, None, ne_eqb, cond, length-set}
use Rattle.std.specs.Prelude.{Bool, true, ◌==◌, if◌then◌else◌}
use Rattle.std.proofs.lemmas.List.Elements.{All-nil, All-cons}
use Rattle.std.specs.List.{All}
use mathlib.Core.Option.{some, some-ne-none, some-injective}
use Rattle.bcl_words.specs.Words.{IsWords}
use Rattle.bcl_event.specs.History.{state_by}
use Rattle.bcl_event.specs.declared.map.MapCall.{MapCall}
use Rattle.bcl_event.specs.declared.map.MapCall.TheVariants.{Insert, Merge}
use Rattle.bcl_event.specs.declared.map.MapReply.TheVariants.{New, Full}
use Rattle.bcl_event.specs.Map.{Pairs, value_at, with_pair, stored}
use Rattle.bcl_event.specs.Stored.{Stores as HasStored}
use Rattle.bcl_event.proofs.Values.{pair_stores}
use Rattle.bcl_phase.specs.Rule.{Moves}
use Rattle.bcl_map.specs.declared.shape.Shape.{Shape}
use Rattle.bcl_map.specs.declared.note.Lock.{Lock}
use Rattle.bcl_map.specs.declared.note.Lock.TheVariants.{Shown as shown, Reserved as reserved, Held as held}
use Rattle.bcl_map.specs.declared.note.Before.{Before}
use Rattle.bcl_map.specs.declared.note.Before.TheVariants.{Nothing}
use Rattle.bcl_map.specs.Map.{places, Words, Lawful, finding, owning, filling, HasPlace, home, path, next, permits, size}
use Rattle.bcl_map.specs.Cells.{Cell, free, kept, busy, key_of, used, control}
use Rattle.bcl_map.specs.Notes.{Claim, passed, keyed, alike, settled, certain, lacking, lent, grips, many, met, Note, Has, reads_all, readers, Says, AllSay}
use Rattle.bcl_map.specs.Fits.{MayBeRead, PlaceOk, Placed, Fits, fits, AreTyped, Holds}
use Rattle.bcl_map.specs.Steps.{with_claims, Step, control_at}
use Rattle.bcl_map.specs.Walking.{heading, facing, least}
use Rattle.bcl_map.specs.Inserts.{writing, Stores, ready, Takes}
use Rattle.bcl_map.proofs.Keys.{same_or_not, no_value, same_place, has_place}
use Rattle.bcl_map.proofs.Counts.{set_here, bars_key, bars_used, in_use}
use Rattle.bcl_map.proofs.Frames.{SameAt, readers_stay, Stays, here, carry, changes}
use Rattle.bcl_map.proofs.Gets.{near, passed_more, gets}
use Rattle.bcl_map.proofs.Finds.{none_grips}
use Rattle.bcl_map.proofs.Writes.{traded, holds_step, typed_stored, that_word, same_words, less_where_free}

new_stored : (C : ℕ) (k v : Words) (f : Words → Words) (t : Pairs) → value_at k t ≡ None → length t ≢ C → stored C k v f t (value_at k t) ≡ (New, with_pair k v t)
new_stored C k v f t e ne = ap (stored C k v f t) e ∙ ap (λ z. cond z (Full, t) (New, with_pair k v t)) (ne_eqb (length t) C ne)

module _ (kw vw : ℕ) (L : Shape) (law : Lawful L) where
  -- the claims of other ranks stay, as a free place gets a key that this rank alone may insert
  new_stays : (i r q : ℕ) (t : Pairs) (cells : List Cell) (k v : Words) (c : Cell) → used c ≡ 1 → home L k ≡ r → q ≢ r → (HasPlace k t → ⊥) → HasStored k v t (with_pair k v t) 1
      → (a : Claim) → Says L owning t cells q a → Stays kw vw L q i t (with_pair k v t) free c a
  new_stays i r q t cells k v c one mine' ne new st (passed o d) h = λ z. absurd z
  new_stays i r q t cells k v c one mine' ne new st (keyed o d) h = λ z. absurd (some-ne-none o (sym z))
  new_stays i r q t cells k v c one mine' ne new st (alike o d g) h = λ a _ z. absurd (some-ne-none a (sym z))
  new_stays i r q t cells k v c one mine' ne new st (settled o d) h = λ z. absurd z
  new_stays i r q t cells k v c one mine' ne new st (certain o u) h = λ z. st.others o (λ same. new (u, ap (λ (m : Words). value_at m t) (sym same) ∙ z)) ∙ z
  new_stays i r q t cells k v c one mine' ne new st (lacking o) h = λ none has. none (same_place o t (with_pair k v t) (st.others o (λ same. ⊎_elim
      (λ (w : owning ≡ finding). absurd (omega arith))
      (λ (w : (owning ≡ owning) × (home L o ≡ q)). ne (sym w.1 ∙ (ap (home L) same ∙ mine'))) h.0)) has)
  new_stays i r q t cells k v c one mine' ne new st (lent j o u) h = let w : owning ≡ filling = h.0 in absurd (omega arith)
  new_stays i r q t cells k v c one mine' ne new st (grips j l o old u n) h = λ _ z. cc
  new_stays i r q t cells k v c one mine' ne new st (many b) h = λ z. let m = st.keys in omega arith
  new_stays i r q t cells k v c one mine' ne new st (met j b) h = ((λ _ z. let m = st.keys in omega arith), (let m = st.keys in omega arith))

module _ (kw vw : ℕ) (key value : List ℕ → Bool) (op : Words → Words → Words) (L : Shape) (law : Lawful L) (r : ℕ) (c : MapCall Words Words) (k v : Words) (d : ℕ) (own : home L k ≡ r) (may : permits L owning r c) (stores : Stores k v c) where
  takes_free : (x : Note) → d < places L → IsWords kw k → IsWords vw v → key k ≡ true → value v ≡ true → x.claims ≡ facing L k d (least x.claims)
      → Step kw vw op L owning r x (control_at kw vw op L k d) (λ z. if z == 0 then ready kw vw op L k else z) (λ n t did y. Takes kw vw op L c k v d x n t did y × (AreTyped key value t → AreTyped key value (state_by (next op L) t did)))
  takes_free x short long_k long_v typed_k typed_v at_claims ws t notes is f small = traded n 0 m Outcome
      (λ hit. won hit (get_or f.cells i free) refl) (λ miss. lost miss (get_or f.cells i free) refl)
    where
      b : ℕ
      b = least x.claims

      i : ℕ
      i = path L k d

      w : ℕ
      w = control_at kw vw op L k d

      n : ℕ
      n = slice_index ws w

      m : ℕ
      m = ready kw vw op L k

      plain : ready kw vw op L k ≡ 2 + home L k * 256
      plain = omega arith

      tells : ℕ → Pairs → List (MapCall Words Words) → Note → Type 0
      tells n' t' did y = Takes kw vw op L c k v d x n' t' did y × (AreTyped key value t' → AreTyped key value (state_by (next op L) t' did))

      Outcome : ℕ → Type 0
      Outcome z = (did : List (MapCall Words Words)) × (y : Note) × All (permits L owning r) did × fits kw vw L owning (slice_set ws w z) (state_by (next op L) t did) (set notes r y) × tells n t did y

      l : i < places L
      l = near L law k d

      ok : PlaceOk kw vw L owning ws t notes i (get_or f.cells i free)
      ok = f.each i l

      knew : AllSay L owning t f.cells r (facing L k d b)
      knew = subst (AllSay L owning t f.cells r) at_claims (f.noted r x is)

      most : used (get_or f.cells i free) + b ≤ length t
      most = knew.1.0

      new : HasPlace k t → ⊥
      new = knew.1.1.0.1

      none : value_at k t ≡ None
      none = no_value k t new

      no_grip : (j : ℕ) (lo : Lock) (a : Words) (old : Before) (u : Words) (g : ℕ) → Has (grips j lo a old u g) x.claims → ⊥
      no_grip j lo a old u g h = none_grips j lo a old u g (facing L k d b) (tt, (tt, (tt, tt))) (subst (Has (grips j lo a old u g)) at_claims h)

      same_at : (claims : List Claim) → ((j : ℕ) → reads_all j claims ≡ 0) → (j : ℕ) → SameAt j x (with_claims x claims)
      same_at claims none_read j = (none_read j ∙ sym (ap (reads_all j) at_claims), λ lo a old u g h. absurd (no_grip j lo a old u g h))

      not_there : (j : ℕ) (q : Words) → key_of (get_or f.cells j free) ≡ some q → q ≢ k
      not_there j q g z = new (subst (λ (a : Words). HasPlace a t) z (has_place kw vw L owning ws t notes f j q g))

      -- another rank has the place: its key is another
      beaten : n ≢ 0 → (o : Words) → key_of (get_or f.cells i free) ≡ some o → Outcome n
      beaten miss o e = let one = in_use (get_or f.cells i free) o e in let h = most in
          gets L law kw vw op owning r x w tells ws t notes f (with_claims x (heading true k (suc d) (suc b))) [] is (same_at (heading true k (suc d) (suc b)) (λ _. refl))
          (passed_more L law owning t f.cells r k d knew.0 (bars_key k o (get_or f.cells i free) e (not_there i o e)), (omega arith, (knew.1.1.0, tt)))
          (λ _. refl) (All-nil (permits L owning r)) refl (record { many = omega arith; won = λ hit. absurd (miss hit); lost = λ _. (refl, refl) }, λ z. z)

      lost : n ≢ 0 → (a : Cell) → get_or f.cells i free ≡ a → Outcome n
      lost miss free e = absurd (miss (ok.shows ∙ ap (control L (readers i notes)) e))
      lost miss (kept o) e = beaten miss o (ap key_of e)
      lost miss (busy lo q o old u g) e = beaten miss o (ap key_of e)

      won : n ≡ 0 → (a : Cell) → get_or f.cells i free ≡ a → Outcome m
      won hit (kept o) e = let g : n ≡ 2 + home L o * 256 + readers i notes * 65536 = ok.shows ∙ ap (control L (readers i notes)) e in absurd (omega arith)
      won hit (busy shown q o old u a) e = let g : n ≡ 2 + home L o * 256 = ok.shows ∙ ap (control L (readers i notes)) e in absurd (omega arith)
      won hit (busy reserved q o old u a) e = let g : n ≡ 1 + home L o * 256 = ok.shows ∙ ap (control L (readers i notes)) e in absurd (omega arith)
      won hit (busy held q o old u a) e = let g : n ≡ 3 + home L o * 256 = ok.shows ∙ ap (control L (readers i notes)) e in absurd (omega arith)
      won hit free e =
          let hollow : used (get_or f.cells i free) ≡ 0 = ap used e in
          let less = less_where_free kw vw L owning ws t notes f i l hollow in
          let says : next op L t c ≡ (New, with_pair k v t) = ⊎_elim
          (λ (z : c ≡ Insert k v). ap (next op L t) z ∙ new_stored (places L) k v (λ old. v) t none (λ same. omega arith))
          (λ (z : c ≡ Merge k v). ap (next op L t) z ∙ new_stored (places L) k v (λ old. op old v) t none (λ same. omega arith)) stores in
          let st : HasStored k v t (with_pair k v t) 1 = pair_stores k v t none in
          let a : Cell = busy shown r k Nothing v 0 in
          let claims : List Claim = writing L k d Nothing v 0 in
          let y : Note = with_claims x claims in
          let us : List ℕ = set ws w m in
          let room : length f.cells ≡ places L = f.room in
          let unread : readers i (set notes r y) ≡ 0 = readers_stay notes r i x y is (same_at claims (λ _. refl) i) ∙ subst (MayBeRead kw vw L (readers i notes)) e ok.read in
          let fit : Fits kw vw L owning us (with_pair k v t) (set notes r y) = changes kw vw L owning ws us t (with_pair k v t) notes f r x y i a is
          (λ j _. same_at claims (λ _. refl) j) l (length-set ws w m) (same_words kw vw L ws i 0 w m (omega arith) refl)
          (record {
            shows = that_word kw vw L owning ws t notes f i 0 w m l (omega arith) refl ∙ plain;
            read = unread;
            content = ((long_k, long_v, st.there), (λ g lt. absurd (omega arith)), omega arith, tt, (refl, own), record { note = y; there = set_here notes r y x is; says = inl refl });
          })
          (λ j q ne g. st.others q (not_there j q g))
          (let more = st.keys in omega arith)
          (omega arith)
          (λ q _ g. absurd (some-ne-none q (sym g ∙ ap key_of e)))
          (λ j q g g'. absurd (not_there j q g' (sym (some-injective k q g))))
          (λ q has. ⊎_elim
          (λ (z : q ≡ k). inl (subst (Placed kw vw L (set f.cells i a)) (sym z) (record {
            d = d;
            within = short;
            there = ap key_of (here kw vw L f.cells i a (omega arith));
            before = λ s lt. carry kw vw L f.cells i a (omega arith) (path L k s) (λ z. used z ≡ 1) (λ z. used z ≡ 1) (λ _ _. refl) (λ _ z. z) (bars_used k (get_or f.cells (path L k s) free) (knew.0 s lt));
          })))
          (λ ne. inr (f.placed q (same_place q t (with_pair k v t) (st.others q ne) has))) (same_or_not q k))
          (λ q u s ne at_q has h. subst (λ (z : Cell). Stays kw vw L q i t (with_pair k v t) z a s) (sym e) (new_stays kw vw L law i r q t f.cells k v a refl own ne new st s h))
          (here kw vw L f.cells i a (omega arith), tt) (λ _. omega arith) in
          let after : with_pair k v t ≡ state_by (next op L) t (c ∷ []) = λ j. (sym says j).1 in (
            c ∷ [],
            y,
            All-cons (permits L owning r) c [] may (All-nil (permits L owning r)),
            subst (λ (s : Pairs). Fits kw vw L owning us s (set notes r y)) after fit,
            (
              record { many = (let h = most in omega arith); won = λ _. (refl, (λ j. (says j).0), refl); lost = λ miss. absurd (miss hit) },
              λ typed. subst (AreTyped key value) after (typed_stored key value k v t (with_pair k v t) 1 st typed_k typed_v typed),
            ),
          )

  -- the exchange of FREE to READY
  pub take_step : (w n : ℕ) (x : Note) → d < places L → IsWords kw k → IsWords vw v → key k ≡ true → value v ≡ true → x.claims ≡ facing L k d (least x.claims) → w ≡ size kw vw * path L k d + 0 → n ≡ ready kw vw op L k
      → Moves (next op) permits (Holds kw vw key value) L owning r x w (λ z. if z == 0 then n else z) (Takes kw vw op L c k v d x)
  take_step w n x short long_k long_v typed_k typed_v at_claims at_word is_ready =
      subst (λ (z : ℕ × ℕ). Moves (next op) permits (Holds kw vw key value) L owning r x z.0 (λ s. if s == 0 then z.1 else s) (Takes kw vw op L c k v d x)) (λ j. (sym at_word j, sym is_ready j))
      (holds_step kw vw key value op L owning r x _ (λ z. if z == 0 then ready kw vw op L k else z) (Takes kw vw op L c k v d x) (takes_free x short long_k long_v typed_k typed_v at_claims))
