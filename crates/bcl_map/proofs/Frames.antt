-- What a step leaves: the facts of the other places, and the claims of the other notes.
use Rattle.std.proofs.Common.{◌≡◌, ◌≢◌, ℕ, ◌+◌, ◌<◌, ◌≤◌, ◌⊎◌, inl, inr, List, [], ◌∷◌, length, set, get_or, refl, sym, ap, ◌∙◌, subst, ⊎_elim, arith, length-set, get_or-set_other, get_or-set_same, Some}
use native.Mathlib.Decide.{ℕ_discrete}
use mathlib.Core.Logic.{dite}
use mathlib.Core.Option.{some, some-injective}
use lib.ListN.{get_elem?}
use Rattle.atomic_table.proofs.Lists.{at_set, set_else}
use Rattle.bcl_map.specs.declared.shape.Shape.{Shape}
use Rattle.bcl_event.specs.Map.{Pairs, value_at}
use Rattle.bcl_map.specs.Map.{places, Words, HasPlace, home, path, size, word}
use Rattle.bcl_map.specs.Cells.{Cell, free, kept, busy, key_of, used, Bars, IsSettled, control}
use Rattle.bcl_map.specs.declared.note.Lock.{Lock}
use Rattle.bcl_map.specs.declared.note.Before.{Before}
use Rattle.bcl_map.specs.declared.note.Before.TheVariants.{Nothing, Value as before}
use Rattle.bcl_map.specs.Notes.{Claim, passed, keyed, alike, settled, certain, lacking, lent, grips, many, met, Note, Has, reads_all, readers, Says, AllSay}
use Rattle.bcl_map.specs.Fits.{Behind, Named, IsContent, MayBeRead, PlaceOk, Placed, Fits}
use Rattle.bcl_map.proofs.Counts.{filled_set, readers_set, set_here}

-- two notes are alike at a place: as many readers, and the second writes it if the first does
abbrev pub SameAt : ℕ → Note → Note → Type 0
SameAt j x y = (reads_all j y.claims ≡ reads_all j x.claims) × ((l : Lock) (k : Words) (old : Before) (v : Words) (n : ℕ) → Has (grips j l k old v n) x.claims → Has (grips j l k old v n) y.claims)

pub readers_stay : (notes : List Note) (r j : ℕ) (x y : Note) → get_elem? notes r ≡ some x → SameAt j x y → readers j (set notes r y) ≡ readers j notes
readers_stay notes r j x y is same = let e = readers_set j notes r x y is in let s = same.0 in omega arith

module _ (kw vw : ℕ) (L : Shape) where
  abbrev pub SameWords : List ℕ → List ℕ → ℕ → Type 0
  SameWords ws us j = (b : ℕ) → b < size kw vw → word kw vw us j b ≡ word kw vw ws j b

  named_stays : (notes : List Note) (r j q : ℕ) (x y : Note) (l : Lock) (k : Words) (old : Before) (v : Words) (n : ℕ) → get_elem? notes r ≡ some x → SameAt j x y
      → Named kw vw L notes q j l k old v n → Named kw vw L (set notes r y) q j l k old v n
  named_stays notes r j q x y l k old v n is same h = dite (ℕ_discrete q r)
      (λ (e : q ≡ r). record {
        note = y;
        there = subst (λ (z : ℕ). get_elem? (set notes r y) z ≡ some y) (sym e) (set_here notes r y x is);
        says = same.1 l k old v n (subst (λ (z : Note). Has (grips j l k old v n) z.claims) (sym (some-injective x h.note (sym is ∙ (ap (get_elem? notes) (sym e) ∙ h.there)))) h.says);
      })
      (λ (ne : q ≢ r). record { note = h.note; there = set_else notes r q y ne ∙ h.there; says = h.says })

  behind_stays : (ws us : List ℕ) (j : ℕ) (k : Words) (old : Before) (n : ℕ) → SameWords ws us j → Behind kw vw L ws j k old n → Behind kw vw L us j k old n
  behind_stays ws us j k Nothing n same h = tt
  behind_stays ws us j k (before o) n same h = λ b le lt. same (1 + b) (omega arith) ∙ h b le lt

  -- another place
  content_stays : (p : ℕ) (ws us : List ℕ) (t t' : Pairs) (notes : List Note) (r : ℕ) (x y : Note) (j : ℕ) (c : Cell) → get_elem? notes r ≡ some x → SameAt j x y → SameWords ws us j
      → ((k : Words) → key_of c ≡ some k → value_at k t' ≡ value_at k t) → IsContent kw vw L p ws t notes j c → IsContent kw vw L p us t' (set notes r y) j c
  content_stays p ws us t t' notes r x y j free is at_j same values h = tt
  content_stays p ws us t t' notes r x y j (kept k) is at_j same values h =
      (h.0, (h.1.0, h.1.1, values k refl ∙ h.1.2), λ b lt. same (1 + b) (omega arith) ∙ h.2 b lt)
  content_stays p ws us t t' notes r x y j (busy l q k old v n) is at_j same values h = let le = h.2 in (
    (h.0.0, h.0.1, values k refl ∙ h.0.2),
    (λ b lt. same (1 + b) (omega arith) ∙ h.1 b lt),
    h.2,
    behind_stays ws us j k old n same h.3,
    h.4,
    named_stays notes r j q x y l k old v n is at_j h.5,
  )

  pub place_stays : (p : ℕ) (ws us : List ℕ) (t t' : Pairs) (notes : List Note) (r : ℕ) (x y : Note) (j : ℕ) (c : Cell) → get_elem? notes r ≡ some x → SameAt j x y → SameWords ws us j
      → ((k : Words) → key_of c ≡ some k → value_at k t' ≡ value_at k t) → PlaceOk kw vw L p ws t notes j c → PlaceOk kw vw L p us t' (set notes r y) j c
  place_stays p ws us t t' notes r x y j c is at_j same values h = let e = readers_stay notes r j x y is at_j in record {
    shows = same 0 (omega arith) ∙ (h.shows ∙ ap (λ (z : ℕ). control L z c) (sym e));
    read = subst (λ (z : ℕ). MayBeRead kw vw L z c) (sym e) h.read;
    content = content_stays p ws us t t' notes r x y j c is at_j same values h.content;
  }

  -- what a step has to show of a claim of the rank q, which is another, as the place i goes from c to c', and the state from t to t'
  abbrev pub Stays : ℕ → ℕ → Pairs → Pairs → Cell → Cell → Claim → Type 0
  Stays q i t t' c c' (passed k d) = Bars k c → Bars k c'
  Stays q i t t' c c' (keyed k d) = key_of c ≡ some k → key_of c' ≡ some k
  Stays q i t t' c c' (alike k d g) = (o : Words) → home L o ≡ home L k → key_of c ≡ some o → key_of c' ≡ some o
  Stays q i t t' c c' (settled k d) = IsSettled c → IsSettled c'
  Stays q i t t' c c' (certain k v) = value_at k t ≡ Some v → value_at k t' ≡ Some v
  Stays q i t t' c c' (lacking k) = (HasPlace k t → ⊥) → HasPlace k t' → ⊥
  Stays q i t t' c c' (lent j k v) = (j ≡ i → c ≡ kept k → c' ≡ kept k) × (value_at k t ≡ Some v → value_at k t' ≡ Some v)
  Stays q i t t' c c' (grips j l k old v n) = j ≡ i → c ≡ busy l q k old v n → c' ≡ busy l q k old v n
  Stays q i t t' c c' (many b) = b ≤ length t → b ≤ length t'
  Stays q i t t' c c' (met j b) = (j ≡ i → used c + b ≤ length t → used c' + b ≤ length t') × (length t ≤ length t')

  module _ (cells : List Cell) (i : ℕ) (c : Cell) (near : i < length cells) where
    pub here : get_or (set cells i c) i free ≡ c
    here = get_or-set_same cells i c free near

    -- what holds of a place stays, if it does at the one that changes
    pub carry : (j : ℕ) (P Q : Cell → Type 0) → (j ≡ i → P (get_or cells i free) → Q c) → ((z : Cell) → P z → Q z) → P (get_or cells j free) → Q (get_or (set cells i c) j free)
    carry j P Q turn keep h = dite (ℕ_discrete j i)
        (λ (same : j ≡ i). subst (λ (z : ℕ). Q (get_or (set cells i c) z free)) (sym same) (subst Q (sym here) (turn same (subst (λ (z : ℕ). P (get_or cells z free)) same h))))
        (λ (ne : j ≢ i). subst Q (sym (get_or-set_other cells i j c free ne)) (keep (get_or cells j free) h))

    pub claim_stays : (p q : ℕ) (t t' : Pairs) (a : Claim) → (Says L p t cells q a → Stays q i t t' (get_or cells i free) c a) → Says L p t cells q a → Says L p t' (set cells i c) q a
    claim_stays p q t t' (passed k d) turn h = λ e l. carry (path L k e) (Bars k) (Bars k) (λ _. turn h) (λ _ z. z) (h e l)
    claim_stays p q t t' (keyed k d) turn h = carry (path L k d) (λ z. key_of z ≡ some k) (λ z. key_of z ≡ some k) (λ _. turn h) (λ _ z. z) h
    claim_stays p q t t' (alike k d g) turn h = (h.0, carry (path L k d) (λ z. key_of z ≡ some h.0) (λ z. key_of z ≡ some h.0) (λ _. turn h h.0 h.2) (λ _ z. z) h.1, h.2, h.3)
    claim_stays p q t t' (settled k d) turn h = carry (path L k d) IsSettled IsSettled (λ _. turn h) (λ _ z. z) h
    claim_stays p q t t' (certain k v) turn h = (h.0, turn h h.1)
    claim_stays p q t t' (lacking k) turn h = (h.0, turn h h.1)
    claim_stays p q t t' (lent j k v) turn h = (h.0, carry j (λ z. z ≡ kept k) (λ z. z ≡ kept k) ((turn h).0) (λ _ z. z) h.1, (turn h).1 h.2)
    claim_stays p q t t' (grips j l k old v n) turn h = carry j (λ z. z ≡ busy l q k old v n) (λ z. z ≡ busy l q k old v n) (turn h) (λ _ z. z) h
    claim_stays p q t t' (many b) turn h = turn h h
    claim_stays p q t t' (met j b) turn h = let more = (turn h).1 in carry j (λ z. used z + b ≤ length t) (λ z. used z + b ≤ length t') ((turn h).0) (λ z le. omega arith) h

    pub all_stay : (p q : ℕ) (t t' : Pairs) (as' : List Claim) → ((a : Claim) → Has a as' → Says L p t cells q a → Stays q i t t' (get_or cells i free) c a) → AllSay L p t cells q as' → AllSay L p t' (set cells i c) q as'
    all_stay p q t t' [] turn h = tt
    all_stay p q t t' (a ∷ as') turn h = (claim_stays p q t t' a (turn a (inl refl)) h.0, all_stay p q t t' as' (λ b has. turn b (inr has)) h.1)

  -- a step that changes a note alone
  pub renotes : (p : ℕ) (ws : List ℕ) (t : Pairs) (notes : List Note) (f : Fits kw vw L p ws t notes) (r : ℕ) (x y : Note) → get_elem? notes r ≡ some x → ((j : ℕ) → SameAt j x y)
      → AllSay L p t f.cells r y.claims → ((j : ℕ) → reads_all j y.claims ≤ 1) → Fits kw vw L p ws t (set notes r y)
  renotes p ws t notes f r x y is same says once_only = record {
    cells = f.cells;
    room = f.room;
    wide = f.wide;
    few = subst (λ (z : ℕ). z ≤ L.ranks) (sym (length-set notes r y)) f.few;
    as_many = f.as_many;
    each = λ i h. place_stays p ws ws t t notes r x y i (get_or f.cells i free) is (same i) (λ _ _. refl) (λ _ _. refl) (f.each i h);
    once = f.once;
    placed = f.placed;
    single = λ q u e. ⊎_elim (λ (z : (q ≡ r) × (y ≡ u)). subst (λ (w : Note). (j : ℕ) → reads_all j w.claims ≤ 1) z.1 once_only)
        (λ (z : (q ≢ r) × (get_elem? notes q ≡ some u)). f.single q u z.1) (at_set notes r q y u e);
    noted = λ q u e. ⊎_elim (λ (z : (q ≡ r) × (y ≡ u)). subst (λ (w : ℕ × Note). AllSay L p t f.cells w.0 w.1.claims) (λ j. (sym z.0 j, z.1 j)) says)
        (λ (z : (q ≢ r) × (get_elem? notes q ≡ some u)). f.noted q u z.1) (at_set notes r q y u e);
  }

  -- a step that changes one place and one note
  pub changes : (p : ℕ) (ws us : List ℕ) (t t' : Pairs) (notes : List Note) (f : Fits kw vw L p ws t notes) (r : ℕ) (x y : Note) (i : ℕ) (c : Cell) → get_elem? notes r ≡ some x → ((j : ℕ) → j ≢ i → SameAt j x y) → i < places L
      → length us ≡ length ws → ((j : ℕ) → j ≢ i → SameWords ws us j)
      → PlaceOk kw vw L p us t' (set notes r y) i c
      → ((j : ℕ) (k : Words) → j ≢ i → key_of (get_or f.cells j free) ≡ some k → value_at k t' ≡ value_at k t)
      → used c + length t ≡ used (get_or f.cells i free) + length t'
      → used (get_or f.cells i free) ≤ used c
      → ((k : Words) → HasPlace k t' → key_of (get_or f.cells i free) ≡ some k → key_of c ≡ some k)
      → ((j : ℕ) (k : Words) → key_of c ≡ some k → key_of (get_or f.cells j free) ≡ some k → i ≡ j)
      → ((k : Words) → HasPlace k t' → Placed kw vw L (set f.cells i c) k ⊎ Placed kw vw L f.cells k)
      → ((q : ℕ) (u : Note) (a : Claim) → q ≢ r → get_elem? notes q ≡ some u → Has a u.claims → Says L p t f.cells q a → Stays q i t t' (get_or f.cells i free) c a)
      → AllSay L p t' (set f.cells i c) r y.claims
      → ((j : ℕ) → reads_all j y.claims ≤ 1)
      → Fits kw vw L p us t' (set notes r y)
  changes p ws us t t' notes f r x y i c is else_same near long same ok others count firm keys fresh placed turns says once_only =
      let cs : List Cell = f.cells in let room : length cs ≡ places L = f.room in let near' : i < length cs = omega arith in let at_i : get_or (set cs i c) i free ≡ c = get_or-set_same cs i c free near' in record {
        cells = set cs i c;
        room = length-set cs i c ∙ room;
        wide = long ∙ f.wide;
        few = subst (λ (z : ℕ). z ≤ L.ranks) (sym (length-set notes r y)) f.few;
        as_many = let a = filled_set cs i c near' in let b = f.as_many in omega arith;
        each = λ j h. dite (ℕ_discrete j i)
            (λ e. subst (λ (z : ℕ × Cell). PlaceOk kw vw L p us t' (set notes r y) z.0 z.1) (λ n. (sym e n, (sym (ap (λ (z : ℕ). get_or (set cs i c) z free) e ∙ at_i)) n)) ok)
            (λ ne. subst (PlaceOk kw vw L p us t' (set notes r y) j) (sym (get_or-set_other cs i j c free ne))
            (place_stays p ws us t t' notes r x y j (get_or cs j free) is (else_same j ne) (same j ne) (λ k e. others j k ne e) (f.each j h)));
        once = λ a b k ea eb. dite (ℕ_discrete a i)
            (λ e. dite (ℕ_discrete b i) (λ e'. e ∙ sym e')
            (λ ne'. e ∙ fresh b k (ap key_of (sym at_i) ∙ (ap (λ (z : ℕ). key_of (get_or (set cs i c) z free)) (sym e) ∙ ea)) (ap key_of (sym (get_or-set_other cs i b c free ne')) ∙ eb)))
            (λ ne. let old : key_of (get_or cs a free) ≡ some k = ap key_of (sym (get_or-set_other cs i a c free ne)) ∙ ea in dite (ℕ_discrete b i)
            (λ e'. absurd (ne (sym (fresh a k (ap key_of (sym at_i) ∙ (ap (λ (z : ℕ). key_of (get_or (set cs i c) z free)) (sym e') ∙ eb)) old))))
            (λ ne'. f.once a b k old (ap key_of (sym (get_or-set_other cs i b c free ne')) ∙ eb)));
        placed = λ k has. ⊎_elim (λ h. h)
            (λ (h : Placed kw vw L f.cells k). record {
              d = h.d;
              within = h.within;
              there = carry cs i c near' (path L k h.d) (λ z. key_of z ≡ some k) (λ z. key_of z ≡ some k) (λ _. keys k has) (λ _ z. z) h.there;
              before = λ a l. carry cs i c near' (path L k a) (λ z. used z ≡ 1) (λ z. used z ≡ 1) (λ _ g. let m = firm in let top = at_most' c in omega arith) (λ _ z. z) (h.before a l);
            }) (placed k has);
        single = λ q u e. ⊎_elim (λ (z : (q ≡ r) × (y ≡ u)). subst (λ (w : Note). (j : ℕ) → reads_all j w.claims ≤ 1) z.1 once_only)
            (λ (z : (q ≢ r) × (get_elem? notes q ≡ some u)). f.single q u z.1) (at_set notes r q y u e);
        noted = λ q u e. ⊎_elim (λ (z : (q ≡ r) × (y ≡ u)). subst (λ (w : ℕ × Note). AllSay L p t' (set cs i c) w.0 w.1.claims) (λ j. (sym z.0 j, z.1 j)) says)
            (λ (z : (q ≢ r) × (get_elem? notes q ≡ some u)). all_stay cs i c near' p q t t' u.claims (λ a. turns q u a z.0 z.1) (f.noted q u z.1)) (at_set notes r q y u e);
      }
    where
      at_most' : (z : Cell) → used z ≤ 1
      at_most' free = omega arith
      at_most' (kept k) = omega arith
      at_most' (busy l q k old v n) = omega arith
