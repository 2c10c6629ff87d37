-- The gets of the words of a value, and what a get needs in any call.
use Rattle.std.proofs.Common.{◌≡◌, ℕ, zero, suc, ◌+◌, ◌*◌, ◌<◌, ◌≤◌, List, [], ◌∷◌, length, take, get_or, slice_index, slice_set, refl, sym, ap, ◌∙◌, subst, ⊎_elim, arith, Some}
use Rattle.std.proofs.lemmas.List.Elements.{All-nil, All-cons}
use Rattle.std.specs.List.{All}
use Rattle.std.proofs.lemmas.List.{length-take-le, get_or_append_left, get_or-append-add, get_or-take}
use Rattle.std.proofs.lemmas.Grind.{same_number_lists}
use Rattle.std.proofs.lemmas.Bool.{cases_lt}
use native.Mathlib.Decide.{ℕ_discrete}
use mathlib.Core.Logic.{dite}
use mathlib.Core.Option.{some, some-ne-none, some-injective}
use lib.ListN.{get_elem?}
use Rattle.bcl_words.specs.Words.{IsWords}
use Rattle.bcl_words.proofs.Fitting.{past}
use Rattle.bcl_event.specs.History.{state_by}
use Rattle.bcl_event.specs.declared.map.MapCall.{MapCall}
use Rattle.bcl_event.specs.declared.map.MapCall.TheVariants.{Find}
use Rattle.bcl_event.specs.Map.{Pairs, found}
use Rattle.bcl_map.specs.declared.shape.Shape.{Shape}
use Rattle.bcl_map.specs.declared.note.Lock.{Lock}
use Rattle.bcl_map.specs.declared.note.Lock.TheVariants.{Shown as shown, Reserved as reserved, Held as held}
use Rattle.bcl_map.specs.declared.note.Before.{Before}
use Rattle.bcl_map.specs.Map.{Words, Lawful, finding, owning, filling, home, path, next, permits, size, Lies, content}
use Rattle.bcl_map.specs.Cells.{Cell, free, kept, busy, key_of}
use Rattle.bcl_map.specs.Notes.{Claim, passed, keyed, alike, settled, certain, lacking, lent, grips, many, met, Note, Has, reads, reads_all, AllSay}
use Rattle.bcl_map.specs.Fits.{HasValue, MayWrite, Named, IsContent, Fits, AreTyped, Holds}
use Rattle.bcl_map.specs.Steps.{with_claims, Step}
use Rattle.std.specs.Prelude.{Bool}
use Rattle.bcl_phase.specs.Rule.{Moves}
use Rattle.bcl_map.specs.Finds.{Typed, MaySee, reading, FindsValue}
use Rattle.bcl_map.specs.Walking.{walked}
use Rattle.bcl_map.proofs.Frames.{SameAt}
use Rattle.bcl_map.proofs.Gets.{near, gets}

-- ---- claims that read no place and write none

abbrev pub IsPlain : Claim → Type 0
IsPlain (passed k d) = Unit {0}
IsPlain (keyed k d) = Unit {0}
IsPlain (alike k d g) = Unit {0}
IsPlain (settled k d) = Unit {0}
IsPlain (certain k v) = Unit {0}
IsPlain (lacking k) = Unit {0}
IsPlain (lent i k v) = ⊥
IsPlain (grips i l k old v n) = ⊥
IsPlain (many b) = Unit {0}
IsPlain (met i b) = Unit {0}

abbrev pub ArePlain : List Claim → Type 0
ArePlain [] = Unit {0}
ArePlain (a ∷ as') = IsPlain a × ArePlain as'

plain_reads : (i : ℕ) (a : Claim) → IsPlain a → reads i a ≡ 0
plain_reads i (passed k d) h = refl
plain_reads i (keyed k d) h = refl
plain_reads i (alike k d g) h = refl
plain_reads i (settled k d) h = refl
plain_reads i (certain k v) h = refl
plain_reads i (lacking k) h = refl
plain_reads i (lent j k v) h = absurd h
plain_reads i (grips j l k old v n) h = absurd h
plain_reads i (many b) h = refl
plain_reads i (met j b) h = refl

pub none_reads : (i : ℕ) (as' : List Claim) → ArePlain as' → reads_all i as' ≡ 0
none_reads i [] h = refl
none_reads i (a ∷ as') h = let one = plain_reads i a h.0 in let others = none_reads i as' h.1 in omega arith

pub none_grips : (j : ℕ) (l : Lock) (k : Words) (old : Before) (v : Words) (n : ℕ) (as' : List Claim) → ArePlain as' → Has (grips j l k old v n) as' → ⊥
none_grips j l k old v n [] h has = has
none_grips j l k old v n (a ∷ as') h has = ⊎_elim (λ (e : a ≡ grips j l k old v n). subst IsPlain e h.0) (λ z. none_grips j l k old v n as' h.1 z) has

pub plain_same : (x : Note) (as' bs : List Claim) → x.claims ≡ as' → ArePlain as' → ArePlain bs → (j : ℕ) → SameAt j x (with_claims x bs)
plain_same x as' bs e plain plain' j = (
  none_reads j bs plain' ∙ sym (ap (reads_all j) e ∙ none_reads j as' plain),
  λ l k old v n has. absurd (none_grips j l k old v n as' plain (subst (Has (grips j l k old v n)) e has)),
)

pub walked_plain : (k : Words) (d : ℕ) → ArePlain (walked k d)
walked_plain k zero = tt
walked_plain k (suc d) = (tt, tt)

-- ---- the words of keys and values

-- objects of the same own words
pub same_object : (width : ℕ) (v w : Words) → IsWords width v → IsWords width w → ((b : ℕ) → b < width → slice_index v b ≡ slice_index w b) → v ≡ w
same_object width v w is is' own = same_number_lists v w (is.len ∙ sym is'.len) (λ b below. let short : b < 8 = subst (λ (n : ℕ). b < n) is.len below in ⊎_elim
    (λ (less : b < width). own b less)
    (λ (most : width ≤ b). past width v is b most short ∙ sym (past width w is' b most short)) (cases_lt b width))

module _ (kw vw : ℕ) (k v : Words) where
  pub key_word : (b : ℕ) → b < kw → b < length (take kw k) → slice_index (content kw vw k v) b ≡ slice_index k b
  key_word b less within = get_or_append_left (take kw k) (take vw v) 0 b within ∙ get_or-take kw k b 0 less

  pub value_word : length (take kw k) ≡ kw → (b : ℕ) → b < vw → slice_index (content kw vw k v) (kw + b) ≡ slice_index v b
  value_word long b less = ap (λ (n : ℕ). slice_index (content kw vw k v) (n + b)) (sym long) ∙ (get_or-append-add (take kw k) (take vw v) b 0 ∙ get_or-take vw v b 0 less)

pub own_words : (width : ℕ) (w : Words) → width ≤ 8 → IsWords width w → length (take width w) ≡ width
own_words width w most is = length-take-le width w (subst (λ (n : ℕ). width ≤ n) (sym is.len) most)

-- ---- places

pub by_cell : (c : Cell) (F : Type 0) → (c ≡ free → F) → ((o : Words) → key_of c ≡ some o → F) → F
by_cell free F none_there one_there = none_there refl
by_cell (kept o) F none_there one_there = one_there o refl
by_cell (busy l q o old v n) F none_there one_there = one_there o refl

module _ (kw vw : ℕ) (op : Words → Words → Words) (L : Shape) (law : Lawful L) (p r : ℕ) (k : Words) (d : ℕ) (sure : MaySee L p r k) where
  may_find : permits L p r (Find k)
  may_find = ⊎_elim (λ (e : p ≡ finding). subst (λ (q : ℕ). permits L q r (Find k)) (sym e) tt) (λ (t : (p ≡ owning) × (home L k ≡ r)). subst (λ (q : ℕ). permits L q r (Find k)) (sym t.0) t.1) sure

  one_find : All (permits L p r) (Find k ∷ [])
  one_find = All-cons (permits L p r) (Find k) [] may_find (All-nil (permits L p r))

  module _ (x : Note) (as' : List Claim) (at : x.claims ≡ as') (plain : ArePlain as') (ws : List ℕ) (t : Pairs) (notes : List Note) (is : get_elem? notes r ≡ some x) (f : Fits kw vw L p ws t notes) (w : ℕ) where
    -- on, with other claims
    pub on : (tells : ℕ → Pairs → List (MapCall Words Words) → Note → Type 0) (bs : List Claim) → ArePlain bs → AllSay L p t f.cells r bs → tells (slice_index ws w) t [] (with_claims x bs)
        → (did' : List (MapCall Words Words)) × (y' : Note) × All (permits L p r) did' × Fits kw vw L p (slice_set ws w (slice_index ws w)) (state_by (next op L) t did') (slice_set notes r y') × tells (slice_index ws w) t did' y'
    on tells bs plain' says told = gets L law kw vw op p r x w tells ws t notes f (with_claims x bs) [] is (plain_same x as' bs at plain plain') says (λ j. none_reads j bs plain') (All-nil (permits L p r)) refl told

    -- an answer
    ends : (tells : ℕ → Pairs → List (MapCall Words Words) → Note → Type 0) → tells (slice_index ws w) t (Find k ∷ []) (with_claims x [])
        → (did' : List (MapCall Words Words)) × (y' : Note) × All (permits L p r) did' × Fits kw vw L p (slice_set ws w (slice_index ws w)) (state_by (next op L) t did') (slice_set notes r y') × tells (slice_index ws w) t did' y'
    ends tells told = gets L law kw vw op p r x w tells ws t notes f (with_claims x []) (Find k ∷ []) is (plain_same x as' [] at plain tt) tt (λ j. refl) one_find refl told

  -- whoever may see the value of a key meets no place that another rank writes
  module _ (x : Note) (as' : List Claim) (at : x.claims ≡ as') (plain : ArePlain as') (ws : List ℕ) (t : Pairs) (notes : List Note) (is : get_elem? notes r ≡ some x) (o : Words) (same : home L o ≡ home L k) where
    pub none_writes : (i : ℕ) (l : Lock) (q : ℕ) (old : Before) (v : Words) (n : ℕ) → MayWrite kw vw L p l q o n → Named kw vw L notes q i l o old v n → ⊥
    none_writes i shown q old v n may named = ⊎_elim
        (λ (e : p ≡ finding). let e' : p ≡ owning = may.0 in omega arith)
        (λ (e : (p ≡ owning) × (home L k ≡ r)). let me : q ≡ r = sym may.1 ∙ same ∙ e.1 in
        let mine : x ≡ named.note = some-injective x named.note (sym is ∙ sym (ap (get_elem? notes) me) ∙ named.there) in
        none_grips i shown o old v n as' plain (subst (Has (grips i shown o old v n)) (ap (λ (z : Note). z.claims) (sym mine) ∙ at) named.says))
        sure
    none_writes i reserved q old v n may named = let e' : p ≡ filling = may in ⊎_elim (λ (e : p ≡ finding). omega arith) (λ (e : (p ≡ owning) × (home L k ≡ r)). let e'' = e.0 in omega arith) sure
    none_writes i held q old v n may named = let e' : p ≡ filling = may.0 in ⊎_elim (λ (e : p ≡ finding). omega arith) (λ (e : (p ≡ owning) × (home L k ≡ r)). let e'' = e.0 in omega arith) sure

    -- so the place is whole
    pub whole : (i : ℕ) (c : Cell) → key_of c ≡ some o → IsContent kw vw L p ws t notes i c → (v : Words) × HasValue kw vw L t o v × Lies kw vw ws i (content kw vw o v) (kw + vw)
    whole i free e ok = absurd (some-ne-none o (sym e))
    whole i (kept a) e ok = subst (λ (z : Words). (v : Words) × HasValue kw vw L t z v × Lies kw vw ws i (content kw vw z v) (kw + vw)) (some-injective a o e) ok
    whole i (busy l q a old v n) e ok = let is' = some-injective a o e in absurd (none_writes i l q old v n (subst (λ (z : Words). MayWrite kw vw L p l q z n) is' ok.4) (subst (λ (z : Words). Named kw vw L notes q i l z old v n) is' ok.5))

  -- a get of a word of the value
  pub finds_value : (v : Words) (g : ℕ) (x : Note) → kw ≤ 8 → g < vw → x.claims ≡ reading k d v → Step kw vw op L p r x (size kw vw * path L k d + (1 + (kw + g))) (λ n. n) (FindsValue kw vw op L k d v g x)
  finds_value v g x room low at ws t notes is f small =
      let i : ℕ = path L k d in
      let w : ℕ = size kw vw * path L k d + (1 + (kw + g)) in
      let plain : ArePlain (reading k d v) = (tt, (tt, tt)) in
      let says : AllSay L p t f.cells r (reading k d v) = subst (AllSay L p t f.cells r) at (f.noted r x is) in
      let got = whole x (reading k d v) at plain ws t notes is k refl i (get_or f.cells i free) says.0 (f.each i (near L law k d)).content in
      let same_value : Some got.0 ≡ Some v = sym got.1.2 ∙ says.1.0.1 in
      let same : got.0 ≡ v = cc in
      let word_is : slice_index ws w ≡ slice_index v g = got.2 (kw + g) (omega arith) ∙ (value_word kw vw k got.0 (own_words kw k room got.1.0) g low ∙ ap (λ (l : Words). slice_index l g) same) in
      dite (ℕ_discrete (suc g) vw)
      (λ (last : suc g ≡ vw). ends x (reading k d v) at plain ws t notes is f w (FindsValue kw vw op L k d v g x) (record {
        still = refl;
        there = says.1.0.1;
        word = word_is;
        more = λ less. absurd (omega arith);
        all = λ _. (refl, ap found says.1.0.1, refl);
      }))
      (λ ne. on x (reading k d v) at plain ws t notes is f w (FindsValue kw vw op L k d v g x) (reading k d v) plain says (record {
        still = refl;
        there = says.1.0.1;
        word = word_is;
        more = λ _. (refl, refl);
        all = λ last. absurd (ne last);
      }))

-- ---- with the types of keys and values

pub typed_step : (kw vw : ℕ) (key value : List ℕ → Bool) (op : Words → Words → Words) (L : Shape) (p r : ℕ) (x : Note) (i : ℕ) (tells : ℕ → Pairs → List (MapCall Words Words) → Note → Type 0)
    → ((n : ℕ) (t : Pairs) (did : List (MapCall Words Words)) (y : Note) → tells n t did y → state_by (next op L) t did ≡ t)
    → Step kw vw op L p r x i (λ n. n) tells → Moves (next op) permits (Holds kw vw key value) L p r x i (λ n. n) (Typed key value tells)
typed_step kw vw key value op L p r x i tells stays step ws t xs is h small = let s = step ws t xs is h.places small in
    (s.0, s.1, s.2, record { places = s.3; typed = subst (AreTyped key value) (sym (stays _ _ _ _ s.4)) h.typed }, (s.4, h.typed))
