-- What is read of the places while no pass is out: the pairs of the state, each in one place.
use Rattle.std.proofs.Common.{◌≡◌, ◌≢◌, ℕ, zero, suc, ◌+◌, ◌*◌, ◌<◌, length-append, ◌≤◌, ◌⊎◌, inl, inr, List, [], ◌∷◌, ◌++◌, length, take, get_or, slice_index, mod-lt, refl, sym, ap, ◌∙◌, subst, ⊎_elim, arith, Bool, true, false, cond, Option, Some, None}
use Rattle.std.specs.Prelude.{◌==◌, if◌then◌else◌}
use Rattle.std.specs.Ordering.{nat_cmp, is_eq}
use Rattle.std.specs.declared.cmp.Ordering.{Ordering}
use Rattle.std.specs.declared.cmp.Ordering.TheVariants.{Less, Equal, Greater}
use Rattle.std.specs.Cmp.{tied_itself, nat_cmp_total}
use Rattle.std.specs.Cmp.Lexicographic.{slice_cmp, lists_total}
use Rattle.std.proofs.lemmas.Map.Lookups.{exact_bytes}
use Rattle.std.proofs.lemmas.Option.{none-some}
use Rattle.std.proofs.lemmas.Bool.{cases_lt}
use Rattle.std.proofs.lemmas.Bool.Decides.{Decides-eqb}
use mathlib.Core.Option.{some, some-ne-none, some-injective}
use lib.ListN.{get_elem?}
use Rattle.bcl_segment.specs.declared.layout.Layout.{Layout}
use Rattle.bcl_segment.specs.Places as segment
use Rattle.bcl_phase.proofs.Homes.{snoc_cases}
use Rattle.bcl_map.specs.declared.shape.Shape.{Shape}
use Rattle.bcl_event.specs.History.{state_after}
use Rattle.bcl_event.specs.Map.{Pairs, value_at}
use Rattle.bcl_phase.specs.Views.{words_of}
use Rattle.bcl_map.specs.Map.{places, Words, first_pairs, next, path, size, word, Lies, content}
use Rattle.bcl_map.specs.Cells.{Cell, free, kept, busy, key_of}
use Rattle.bcl_map.specs.Fits.{HasValue, PlaceOk, Fits, AreTyped, Holds}
use Rattle.bcl_map.specs.Calls.{MapView, IsBucketAt}
use Rattle.bcl_map.specs.Closed.{object, pair_at, pairs_to, in_words, contents, IsReplay, IsOnce}
use Rattle.bcl_map.proofs.Counts.{inside}
use Rattle.bcl_map.proofs.Finds.{key_word, value_word, own_words}
use Rattle.bcl_map.proofs.Objects.{object_is}

-- ---- the value of a key in a list of pairs that grows at its end

abbrev order : List ℕ → List ℕ → Ordering
order = slice_cmp nat_cmp

module _ (q : Words) where
  some_same : (a b : Words) → Some a ≡ Some b → a ≡ b
  some_same a b e = cc

  alone : (k v u : Words) (o : Ordering) → order q k ≡ o → cond (is_eq o) (Some v) None ≡ Some u → (q ≡ k) × (v ≡ u)
  alone k v u Less e h = absurd (none-some u h)
  alone k v u Equal e h = (exact_bytes q k e, some_same v u h)
  alone k v u Greater e h = absurd (none-some u h)

  -- it was there, or it is the last
  pub snoc_value : (es : Pairs) (k v u : Words) → value_at q (es ++ (k, v) ∷ []) ≡ Some u → (value_at q es ≡ Some u) ⊎ ((q ≡ k) × (v ≡ u))
  snoc_value [] k v u h = inr (alone k v u (order q k) refl h)
  snoc_value (e ∷ es) k v u h = by (is_eq (order q e.0)) (λ rest. snoc_value es k v u rest) h
    where
      by : (b : Bool) → (value_at q (es ++ (k, v) ∷ []) ≡ Some u → (value_at q es ≡ Some u) ⊎ ((q ≡ k) × (v ≡ u)))
          → cond b (Some e.1) (value_at q (es ++ (k, v) ∷ [])) ≡ Some u → (cond b (Some e.1) (value_at q es) ≡ Some u) ⊎ ((q ≡ k) × (v ≡ u))
      by true more h = inl h
      by false more h = more h

  pub front_value : (es : Pairs) (e' : Words × Words) (u : Words) → value_at q es ≡ Some u → value_at q (es ++ e' ∷ []) ≡ Some u
  front_value [] e' u h = absurd (none-some u h)
  front_value (e ∷ es) e' u h = by (is_eq (order q e.0)) (λ rest. front_value es e' u rest) h
    where
      by : (b : Bool) → (value_at q es ≡ Some u → value_at q (es ++ e' ∷ []) ≡ Some u) → cond b (Some e.1) (value_at q es) ≡ Some u → cond b (Some e.1) (value_at q (es ++ e' ∷ [])) ≡ Some u
      by true more h = h
      by false more h = more h

  pub last_value : (es : Pairs) (v : Words) → value_at q es ≡ None → value_at q (es ++ (q, v) ∷ []) ≡ Some v
  last_value [] v h = ap (λ (o : Ordering). cond (is_eq o) (Some v) None) (tied_itself (lists_total nat_cmp_total) q)
  last_value (e ∷ es) v h = by (is_eq (order q e.0)) (λ rest. last_value es v rest) h
    where
      by : (b : Bool) → (value_at q es ≡ None → value_at q (es ++ (q, v) ∷ []) ≡ Some v) → cond b (Some e.1) (value_at q es) ≡ None → cond b (Some e.1) (value_at q (es ++ (q, v) ∷ [])) ≡ Some v
      by true more h = absurd (none-some e.1 (sym h))
      by false more h = more h

  -- a value, or none
  pub value_or_not : (o : Option Words) → (o ≡ None) ⊎ ((v : Words) × (o ≡ Some v))
  value_or_not None = inl refl
  value_or_not (Some v) = inr (v, refl)

-- ---- the pairs of the first places

pub zero_or_not : (n : ℕ) → (n ≡ 0) ⊎ (n ≢ 0)
zero_or_not zero = inl refl
zero_or_not (suc n) = inr (λ e. omega arith)

module _ (kw vw : ℕ) (ws : List ℕ) (i : ℕ) where
  pub unused : word kw vw ws i 0 ≡ 0 → pairs_to kw vw ws (suc i) ≡ pairs_to kw vw ws i
  unused e = ap (λ (n : ℕ). if n == 0 then pairs_to kw vw ws i else pairs_to kw vw ws i ++ pair_at kw vw ws i ∷ []) e

  pub taken : word kw vw ws i 0 ≢ 0 → pairs_to kw vw ws (suc i) ≡ pairs_to kw vw ws i ++ pair_at kw vw ws i ∷ []
  taken ne = ap (λ (b : Bool). if b then pairs_to kw vw ws i else pairs_to kw vw ws i ++ pair_at kw vw ws i ∷ []) (by (word kw vw ws i 0 == 0) refl)
    where
      by : (b : Bool) → (word kw vw ws i 0 == 0) ≡ b → (word kw vw ws i 0 == 0) ≡ false
      by true e = absurd (ne ((Decides-eqb (word kw vw ws i 0) 0).0 e))
      by false e = e

module _ (kw vw : ℕ) (L : Shape) (p : ℕ) (ws : List ℕ) (t : Pairs) (f : Fits kw vw L p ws t []) (kmost : kw ≤ 8) (vmost : vw ≤ 8) where
  -- a pair of the state, whole, with its own key
  pub record Whole (i : ℕ) : Type 0 where
    pub k : Words
    pub v : Words
    pub keyed : key_of (get_or f.cells i free) ≡ some k
    pub valued : HasValue kw vw L t k v
    pub in_use : word kw vw ws i 0 ≢ 0
    pub lies : Lies kw vw ws i (content kw vw k v) (kw + vw)

  pub place_is : (i : ℕ) → i < places L → (word kw vw ws i 0 ≡ 0) ⊎ Whole i
  place_is i l = by (get_or f.cells i free) refl (f.each i l)
    where
      by : (c : Cell) → get_or f.cells i free ≡ c → PlaceOk kw vw L p ws t [] i c → (word kw vw ws i 0 ≡ 0) ⊎ Whole i
      by free e ok = inl ok.shows
      by (kept k) e ok = inr (record { k = k; v = ok.content.0; keyed = ap key_of e; valued = ok.content.1; in_use = λ z. let shown = ok.shows in omega arith; lies = ok.content.2 })
      by (busy m q k old v n) e ok = absurd (some-ne-none ok.content.5.note (sym ok.content.5.there))

  pub room : (i : ℕ) → i < places L → size kw vw * i + size kw vw ≤ length ws
  room i low = let in' = inside (size kw vw) i (places L) (kw + vw) low (omega arith) in let all = f.wide in omega arith

  module _ (i : ℕ) (low : i < places L) (h : Whole i) where
    long_key : length (take kw h.k) ≡ kw
    long_key = own_words kw h.k kmost h.valued.0

    pub key_is : object kw ws (size kw vw * i + 1) ≡ h.k
    key_is = object_is kw kmost ws (size kw vw * i + 1) (let r = room i low in omega arith) h.k h.valued.0
        (λ b less. let at : size kw vw * i + 1 + b ≡ size kw vw * i + (1 + b) = omega arith in
        ap (slice_index ws) at ∙ (h.lies b (omega arith) ∙ key_word kw vw h.k h.v b less (subst (λ (n : ℕ). b < n) (sym long_key) less)))

    pub value_is : object vw ws (size kw vw * i + (1 + kw)) ≡ h.v
    value_is = object_is vw vmost ws (size kw vw * i + (1 + kw)) (let r = room i low in omega arith) h.v h.valued.1
        (λ b less. let at : size kw vw * i + (1 + kw) + b ≡ size kw vw * i + (1 + (kw + b)) = omega arith in
        ap (slice_index ws) at ∙ (h.lies (kw + b) (omega arith) ∙ value_word kw vw h.k h.v long_key b less))

    pair_is : pair_at kw vw ws i ≡ (h.k, h.v)
    pair_is = λ j. (key_is j, value_is j)

  grown : (i : ℕ) → i < places L → (w : Whole i) → pairs_to kw vw ws (suc i) ≡ pairs_to kw vw ws i ++ (w.k, w.v) ∷ []
  grown i low w = taken kw vw ws i w.in_use ∙ ap (λ (e : Words × Words). pairs_to kw vw ws i ++ e ∷ []) (pair_is i low w)

  -- a value that is found is that of the state
  sound : (q u : Words) (n : ℕ) → n ≤ places L → value_at q (pairs_to kw vw ws n) ≡ Some u → value_at q t ≡ Some u
  sound q u zero most h = absurd (none-some u h)
  sound q u (suc i) most h = ⊎_elim
      (λ (e : word kw vw ws i 0 ≡ 0). sound q u i (omega arith) (subst (λ (es : Pairs). value_at q es ≡ Some u) (unused kw vw ws i e) h))
      (λ (w : Whole i). ⊎_elim (λ (there : value_at q (pairs_to kw vw ws i) ≡ Some u). sound q u i (omega arith) there)
      (λ (z : (q ≡ w.k) × (w.v ≡ u)). ap (λ (k : Words). value_at k t) z.0 ∙ (w.valued.2 ∙ ap Some z.1))
      (snoc_value q (pairs_to kw vw ws i) w.k w.v u (subst (λ (es : Pairs). value_at q es ≡ Some u) (grown i (omega arith) w) h)))
      (place_is i (omega arith))

  -- the value of a place is found
  here : (i : ℕ) → i < places L → (w : Whole i) → value_at w.k (pairs_to kw vw ws (suc i)) ≡ Some w.v
  here i low w = subst (λ (es : Pairs). value_at w.k es ≡ Some w.v) (sym (grown i low w)) (⊎_elim
      (λ (none : value_at w.k (pairs_to kw vw ws i) ≡ None). last_value w.k (pairs_to kw vw ws i) w.v none)
      (λ (there : (u : Words) × (value_at w.k (pairs_to kw vw ws i) ≡ Some u)).
      let same : there.0 ≡ w.v = some_same w.k there.0 w.v (sym (sound w.k there.0 i (omega arith) there.1) ∙ w.valued.2) in
      front_value w.k (pairs_to kw vw ws i) (w.k, w.v) w.v (there.1 ∙ ap Some same))
      (value_or_not w.k (value_at w.k (pairs_to kw vw ws i))))

  complete : (i : ℕ) (w : Whole i) (n : ℕ) → n ≤ places L → i < n → value_at w.k (pairs_to kw vw ws n) ≡ Some w.v
  complete i w zero most low = absurd (omega arith)
  complete i w (suc m) most low = ⊎_elim
      (λ (less : i < m). let before : value_at w.k (pairs_to kw vw ws m) ≡ Some w.v = complete i w m (omega arith) less in ⊎_elim
      (λ (e : word kw vw ws m 0 ≡ 0). subst (λ (es : Pairs). value_at w.k es ≡ Some w.v) (sym (unused kw vw ws m e)) before)
      (λ (last : Whole m). subst (λ (es : Pairs). value_at w.k es ≡ Some w.v) (sym (grown m (omega arith) last)) (front_value w.k (pairs_to kw vw ws m) (last.k, last.v) w.v before))
      (place_is m (omega arith)))
      (λ (over : m ≤ i). let same : i ≡ m = omega arith in subst (λ (n : ℕ). value_at w.k (pairs_to kw vw ws (suc n)) ≡ Some w.v) same (here i (omega arith) w))
      (cases_lt i m)

  -- the place that has a key
  whole_at : (i : ℕ) (k : Words) → i < places L → key_of (get_or f.cells i free) ≡ some k → (w : Whole i) × (w.k ≡ k)
  whole_at i k low = by (get_or f.cells i free) refl (f.each i low)
    where
      by : (c : Cell) → get_or f.cells i free ≡ c → PlaceOk kw vw L p ws t [] i c → key_of c ≡ some k → (w : Whole i) × (w.k ≡ k)
      by free e ok of = absurd (some-ne-none k (sym of))
      by (kept o) e ok of = (record { k = o; v = ok.content.0; keyed = ap key_of e; valued = ok.content.1; in_use = λ z. let shown = ok.shows in omega arith; lies = ok.content.2 }, some-injective o k of)
      by (busy m q o old v n) e ok of = absurd (some-ne-none ok.content.5.note (sym ok.content.5.there))

  -- of each key the value is that of the state
  pub replayed : (q : Words) → value_at q (pairs_to kw vw ws (places L)) ≡ value_at q t
  replayed q = ⊎_elim
      (λ (none : value_at q t ≡ None). ⊎_elim (λ (none' : value_at q (pairs_to kw vw ws (places L)) ≡ None). none' ∙ sym none)
      (λ (there : (u : Words) × (value_at q (pairs_to kw vw ws (places L)) ≡ Some u)). absurd (none-some there.0 (sym none ∙ sound q there.0 (places L) (omega arith) there.1)))
      (value_or_not q (value_at q (pairs_to kw vw ws (places L)))))
      (λ (there : (v : Words) × (value_at q t ≡ Some v)). let pl = f.placed q there in let within = pl.within in
      let low : path L q pl.d < places L = mod-lt _ (omega arith) in let found = whole_at (path L q pl.d) q low pl.there in
      let same : found.0.v ≡ there.0 = some_same q found.0.v there.0 (sym found.0.valued.2 ∙ (ap (λ (k : Words). value_at k t) found.1 ∙ there.1)) in
      subst (λ (k : Words). value_at k (pairs_to kw vw ws (places L)) ≡ Some found.0.v) found.1 (complete (path L q pl.d) found.0 (places L) (omega arith) low) ∙ (ap Some same ∙ sym there.1))
      (value_or_not q (value_at q t))

  -- each entry is of a place
  entry_is : (n : ℕ) → n ≤ places L → (j : ℕ) (k v : Words) → get_elem? (pairs_to kw vw ws n) j ≡ some (k, v) → (i : ℕ) × (i < n) × (key_of (get_or f.cells i free) ≡ some k)
  entry_is zero most j k v h = absurd (some-ne-none (k, v) (sym h))
  entry_is (suc m) most j k v h = ⊎_elim
      (λ (e : word kw vw ws m 0 ≡ 0). let before = entry_is m (omega arith) j k v (subst (λ (es : Pairs). get_elem? es j ≡ some (k, v)) (unused kw vw ws m e) h) in (before.0, (let low = before.1 in omega arith), before.2))
      (λ (w : Whole m). ⊎_elim
      (λ (front : get_elem? (pairs_to kw vw ws m) j ≡ some (k, v)). let before = entry_is m (omega arith) j k v front in (before.0, (let low = before.1 in omega arith), before.2))
      (λ (z : (j ≡ length (pairs_to kw vw ws m)) × ((w.k, w.v) ≡ (k, v))). (m, omega arith, w.keyed ∙ ap (λ (e : Words × Words). some e.0) z.1))
      (snoc_cases (pairs_to kw vw ws m) (w.k, w.v) (k, v) j (subst (λ (es : Pairs). get_elem? es j ≡ some (k, v)) (grown m (omega arith) w) h)))
      (place_is m (omega arith))

  -- no key is in two entries
  single : (n : ℕ) → n ≤ places L → IsOnce (pairs_to kw vw ws n)
  single zero most i j k v w one other = absurd (some-ne-none (k, v) (sym one))
  single (suc m) most i j k v u one other = ⊎_elim
      (λ (e : word kw vw ws m 0 ≡ 0). let back : pairs_to kw vw ws (suc m) ≡ pairs_to kw vw ws m = unused kw vw ws m e in
      single m (omega arith) i j k v u (subst (λ (es : Pairs). get_elem? es i ≡ some (k, v)) back one) (subst (λ (es : Pairs). get_elem? es j ≡ some (k, u)) back other))
      (λ (w : Whole m). let on : pairs_to kw vw ws (suc m) ≡ pairs_to kw vw ws m ++ (w.k, w.v) ∷ [] = grown m (omega arith) w in
      let apart : (a : ℕ) (x y : Words) → get_elem? (pairs_to kw vw ws m) a ≡ some (k, x) → (w.k, w.v) ≡ (k, y) → ⊥ = λ a x y front last.
      let before = entry_is m (omega arith) a k x front in let same : before.0 ≡ m = f.once before.0 m k before.2 (w.keyed ∙ ap (λ (e : Words × Words). some e.0) last) in let low = before.1 in omega arith in
      ⊎_elim
      (λ (front : get_elem? (pairs_to kw vw ws m) i ≡ some (k, v)). ⊎_elim (λ (front' : get_elem? (pairs_to kw vw ws m) j ≡ some (k, u)). single m (omega arith) i j k v u front front')
      (λ (z : (j ≡ length (pairs_to kw vw ws m)) × ((w.k, w.v) ≡ (k, u))). absurd (apart i v u front z.1))
      (snoc_cases (pairs_to kw vw ws m) (w.k, w.v) (k, u) j (subst (λ (es : Pairs). get_elem? es j ≡ some (k, u)) on other)))
      (λ (z : (i ≡ length (pairs_to kw vw ws m)) × ((w.k, w.v) ≡ (k, v))). ⊎_elim (λ (front' : get_elem? (pairs_to kw vw ws m) j ≡ some (k, u)). absurd (apart j u v front' z.1))
      (λ (z' : (j ≡ length (pairs_to kw vw ws m)) × ((w.k, w.v) ≡ (k, u))). z.0 ∙ sym z'.0)
      (snoc_cases (pairs_to kw vw ws m) (w.k, w.v) (k, u) j (subst (λ (es : Pairs). get_elem? es j ≡ some (k, u)) on other)))
      (snoc_cases (pairs_to kw vw ws m) (w.k, w.v) (k, v) i (subst (λ (es : Pairs). get_elem? es i ≡ some (k, v)) on one)))
      (place_is m (omega arith))

  pub once : IsOnce (pairs_to kw vw ws (places L))
  once = single (places L) (omega arith)

  -- what is read of a place in use is a key and a value
  module _ (key value : List ℕ → Bool) (typed : AreTyped key value t) (i : ℕ) (low : i < places L) (ne : word kw vw ws i 0 ≢ 0) where
    there : Whole i
    there = ⊎_elim (λ e. absurd (ne e)) (λ w. w) (place_is i low)

    pub key_passes : key (object kw ws (size kw vw * i + 1)) ≡ true
    key_passes = ap key (key_is i low there) ∙ (typed there.k there.v there.valued.2).0

    pub value_passes : value (object vw ws (size kw vw * i + (1 + kw))) ≡ true
    value_passes = ap value (value_is i low there) ∙ (typed there.k there.v there.valued.2).1

-- ---- the same from the first word of the bucket on

module _ (kw vw : ℕ) (key value : List ℕ → Bool) (layout : Layout) (L : Shape) (p : ℕ) (ws : List ℕ) (t : Pairs) (fit : Holds kw vw key value L p ws t []) (kmost : kw ≤ 8) (vmost : vw ≤ 8)
    (at n : ℕ) (bucket : IsBucketAt (size kw vw) layout at n) (low : n < places L) where
  pub part_within : (first width : ℕ) → first + width ≤ size kw vw → at + (first + width) ≤ segment.places layout
  part_within first width part = let room = bucket.room in omega arith

  pub part_long : (first width : ℕ) → first + width ≤ size kw vw → at + (first + width) ≤ length ws
  part_long first width part = let start = bucket.first in let all = room kw vw L p ws t fit.places kmost vmost n low in omega arith

  pub key_there : word kw vw ws n 0 ≢ 0 → key (object kw ws (at + 1)) ≡ true
  key_there ne = ap (λ (m : ℕ). key (object kw ws (m + 1))) bucket.first ∙ key_passes kw vw L p ws t fit.places kmost vmost key value fit.typed n low ne

  pub value_there : (a : ℕ) → a ≡ kw → word kw vw ws n 0 ≢ 0 → value (object vw ws (at + (1 + a))) ≡ true
  value_there a is ne = (λ i. value (object vw ws (bucket.first i + (1 + is i)))) ∙ value_passes kw vw L p ws t fit.places kmost vmost key value fit.typed n low ne

  -- what was read of it is its pair
  pub pair_read : (a : ℕ) → a ≡ kw → (k v : Words) → k ≡ object kw ws (at + 1) → v ≡ object vw ws (at + (1 + a)) → (k, v) ≡ pair_at kw vw ws n
  pair_read a is k v read read' = λ i. ((read ∙ ap (λ (m : ℕ). object kw ws (m + 1)) bucket.first) i, (read' ∙ (λ j. object vw ws (bucket.first j + (1 + is j)))) i)

  -- there are few pairs before it
  pub few_before : (m : ℕ) → length (pairs_to kw vw ws m) ≤ length (pairs_to kw vw ws (suc m))
  few_before m = ⊎_elim (λ (e : word kw vw ws m 0 ≡ 0). let same = ap length (unused kw vw ws m e) in omega arith)
      (λ (ne : word kw vw ws m 0 ≢ 0). let more = ap length (taken kw vw ws m ne) ∙ length-append (pairs_to kw vw ws m) (pair_at kw vw ws m ∷ []) in omega arith) (zero_or_not (word kw vw ws m 0))

  pub few_up_to : (m far : ℕ) → length (pairs_to kw vw ws m) ≤ length (pairs_to kw vw ws (m + far))
  few_up_to m zero = let same : m ≡ m + 0 = omega arith in let e = ap (λ (j : ℕ). length (pairs_to kw vw ws j)) same in omega arith
  few_up_to m (suc far) = let before = few_up_to m far in let step = few_before (m + far) in let same : suc (m + far) ≡ m + suc far = omega arith in let e = ap (λ (j : ℕ). length (pairs_to kw vw ws j)) same in omega arith

-- ---- entries as their words

pub more_in_words : {K V : Type 0} (key : K → Words) (value : V → Words) (es : List (K × V)) (e : K × V) → in_words key value (es ++ e ∷ []) ≡ in_words key value es ++ (key e.0, value e.1) ∷ []
more_in_words key value [] e = refl
more_in_words key value (x ∷ es) e = ap (λ (l : Pairs). (key x.0, value x.1) ∷ l) (more_in_words key value es e)

pub as_many_words : {K V : Type 0} (key : K → Words) (value : V → Words) (es : List (K × V)) → length (in_words key value es) ≡ length es
as_many_words key value [] = refl
as_many_words key value (x ∷ es) = ap suc (as_many_words key value es)

-- ---- a map that is closed

module _ (kw vw : ℕ) (key value : List ℕ → Bool) (op : Words → Words → Words) (L : Shape) (v w : MapView) (p : ℕ) (ws : List ℕ) (fit : Holds kw vw key value L p ws (contents op L v) []) (kmost : kw ≤ 8) (vmost : vw ≤ 8)
    (seen : w.seen ≡ v.seen) (words : words_of w ≡ ws) (of : w.key ≡ Some L) (entries : Pairs) (listed : entries ≡ pairs_to kw vw ws (places L)) where
  no_key : (o : Option Shape) → o ≡ Some L → o ≡ None → ⊥
  no_key None e none = cc
  no_key (Some s) e none = cc

  same_shape : (o : Option Shape) (shape : Shape) → o ≡ Some L → o ≡ Some shape → L ≡ shape
  same_shape o shape e e' = cc

  pub replay_of : IsReplay kw vw op w entries
  replay_of = record {
    of_map = no_key w.key of;
    each = λ shape is k. let same : L ≡ shape = same_shape w.key shape of is in
        ap (value_at k) listed ∙ (replayed kw vw L p ws (contents op L v) fit.places kmost vmost k ∙ (λ i. value_at k (state_after (next op (same i)) (first_pairs (same i)) (sym seen i))));
    order = λ shape is. listed ∙ (λ i. pairs_to kw vw (sym words i) (places (same_shape w.key shape of is i)));
  }

  pub once_of : IsOnce entries
  once_of = subst IsOnce (sym listed) (once kw vw L p ws (contents op L v) fit.places kmost vmost)
