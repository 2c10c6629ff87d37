-- The words of a map fit as a rank comes or goes with no call in flight, and as another promise begins.
use Rattle.std.specs.Prelude.{Bool, true, false, ◌==◌, ◌||◌}
use Rattle.std.specs.List.{list_all}
use Rattle.std.proofs.lemmas.Bool.{and_parts, false≢true}
use Rattle.std.proofs.Common.{◌≡◌, ℕ, ◌+◌, ◌<◌, ◌≤◌, List, [], ◌∷◌, ◌++◌, length, get_or, refl, sym, ap, ◌∙◌, subst, ⊎_elim, arith}
use mathlib.Core.Option.{some, some-ne-none}
use lib.ListN.{get_elem?}
use Rattle.atomic_table.proofs.Lists.{at_longer}
use Rattle.bcl_phase.proofs.Homes.{snoc_cases}
use Rattle.bcl_map.specs.declared.shape.Shape.{Shape}
use Rattle.bcl_event.specs.Map.{Pairs}
use Rattle.bcl_map.specs.Map.{ranks, filling}
use Rattle.bcl_map.specs.Cells.{Cell, free, kept, busy, control}
use Rattle.bcl_map.specs.declared.note.Lock.{Lock}
use Rattle.bcl_map.specs.declared.note.Before.{Before}
use Rattle.bcl_map.specs.Notes.{Claim, passed, keyed, alike, settled, certain, lacking, lent, grips, many, met, Note, Has, is_known, Rests, rest, at_rest, reads, reads_all, readers, AllSay}
use Rattle.bcl_map.specs.Fits.{IsContent, MayBeRead, PlaceOk, fits, Holds}

-- a known claim reads no place, and writes none
known_reads : (i : ℕ) (a : Claim) → is_known a ≡ true → reads i a ≡ 0
known_reads i (passed k d) h = refl
known_reads i (keyed k d) h = refl
known_reads i (alike k d g) h = absurd (false≢true h)
known_reads i (settled k d) h = refl
known_reads i (certain k v) h = absurd (false≢true h)
known_reads i (lacking k) h = absurd (false≢true h)
known_reads i (lent j k v) h = absurd (false≢true h)
known_reads i (grips j l k old v n) h = absurd (false≢true h)
known_reads i (many b) h = absurd (false≢true h)
known_reads i (met j b) h = absurd (false≢true h)

all_known_reads : (i : ℕ) (as' : List Claim) → list_all is_known as' ≡ true → reads_all i as' ≡ 0
all_known_reads i [] h = refl
all_known_reads i (a ∷ as') h = let parts = and_parts (is_known a) (list_all is_known as') h in let e = known_reads i a parts.0 in let e' = all_known_reads i as' parts.1 in omega arith

known_grips : (j : ℕ) (l : Lock) (k : List ℕ) (old : Before) (v : List ℕ) (n : ℕ) (as' : List Claim) → list_all is_known as' ≡ true → Has (grips j l k old v n) as' → ⊥
known_grips j l k old v n [] h has = has
known_grips j l k old v n (a ∷ as') h has = let parts = and_parts (is_known a) (list_all is_known as') h in
    ⊎_elim (λ (e : a ≡ grips j l k old v n). false≢true (ap is_known (sym e) ∙ parts.0)) (λ z. known_grips j l k old v n as' parts.1 z) has

readers_last : (i : ℕ) (xs : List Note) (y : Note) → Rests y → readers i (xs ++ y ∷ []) ≡ readers i xs
readers_last i [] y h = let e = all_known_reads i y.claims h in omega arith
readers_last i (x ∷ xs) y h = let e = readers_last i xs y h in omega arith

longer_by_one : (l : List Note) (x : Note) → length (l ++ x ∷ []) ≡ length l + 1
longer_by_one [] x = refl
longer_by_one (y ∷ l) x = let i = longer_by_one l x in omega arith

module _ (kw vw : ℕ) (L : Shape) where
  content_more : (p : ℕ) (ws : List ℕ) (t : Pairs) (xs : List Note) (y : Note) (i : ℕ) (c : Cell) → IsContent kw vw L p ws t xs i c → IsContent kw vw L p ws t (xs ++ y ∷ []) i c
  content_more p ws t xs y i free h = h
  content_more p ws t xs y i (kept k) h = h
  content_more p ws t xs y i (busy l q k old v n) h = (h.0, h.1, h.2, h.3, h.4, record { note = h.5.note; there = at_longer xs (y ∷ []) q h.5.note h.5.there; says = h.5.says })

  content_less : (p : ℕ) (ws : List ℕ) (t : Pairs) (xs : List Note) (y : Note) (i : ℕ) (c : Cell) → Rests y → IsContent kw vw L p ws t (xs ++ y ∷ []) i c → IsContent kw vw L p ws t xs i c
  content_less p ws t xs y i free rests h = h
  content_less p ws t xs y i (kept k) rests h = h
  content_less p ws t xs y i (busy l q k old v n) rests h = (
    h.0,
    h.1,
    h.2,
    h.3,
    h.4,
    ⊎_elim
        (λ (there : get_elem? xs q ≡ some h.5.note). record { note = h.5.note; there = there; says = h.5.says })
        (λ (z : (q ≡ length xs) × (y ≡ h.5.note)). absurd (known_grips i l k old v n y.claims rests (subst (λ (x : Note). Has (grips i l k old v n) x.claims) (sym z.1) h.5.says)))
        (snoc_cases xs y h.5.note q h.5.there),
  )

  pub admitted : (p : ℕ) (ws : List ℕ) (t : Pairs) (xs : List Note) → length xs < L.ranks → fits kw vw L p ws t xs → fits kw vw L p ws t (xs ++ rest ∷ [])
  admitted p ws t xs room f = record {
    cells = f.cells;
    room = f.room;
    wide = f.wide;
    few = let e = longer_by_one xs rest in omega arith;
    as_many = f.as_many;
    each = λ i l. let o : PlaceOk kw vw L p ws t xs i (get_or f.cells i free) = f.each i l in let e = readers_last i xs rest refl in record {
      shows = o.shows ∙ ap (λ (z : ℕ). control L z (get_or f.cells i free)) (sym e);
      read = subst (λ (z : ℕ). MayBeRead kw vw L z (get_or f.cells i free)) (sym e) o.read;
      content = content_more p ws t xs rest i (get_or f.cells i free) o.content;
    };
    once = f.once;
    placed = f.placed;
    single = λ r x e. ⊎_elim (λ there. f.single r x there) (λ (z : (r ≡ length xs) × (rest ≡ x)). subst (λ (y : Note). (j : ℕ) → reads_all j y.claims ≤ 1) z.1 (λ _. omega arith)) (snoc_cases xs rest x r e);
    noted = λ r x e. ⊎_elim (λ there. f.noted r x there) (λ (z : (r ≡ length xs) × (rest ≡ x)). subst (λ (y : Note). AllSay L p t f.cells r y.claims) z.1 tt) (snoc_cases xs rest x r e);
  }

  -- whatever the pass that goes still knows
  pub released : (p : ℕ) (ws : List ℕ) (t : Pairs) (xs : List Note) (y : Note) → Rests y → fits kw vw L p ws t (xs ++ y ∷ []) → fits kw vw L p ws t xs
  released p ws t xs y rests f = record {
    cells = f.cells;
    room = f.room;
    wide = f.wide;
    few = let e = longer_by_one xs y in let z = f.few in omega arith;
    as_many = f.as_many;
    each = λ i l. let o : PlaceOk kw vw L p ws t (xs ++ y ∷ []) i (get_or f.cells i free) = f.each i l in let e = readers_last i xs y rests in record {
      shows = o.shows ∙ ap (λ (z : ℕ). control L z (get_or f.cells i free)) e;
      read = subst (λ (z : ℕ). MayBeRead kw vw L z (get_or f.cells i free)) e o.read;
      content = content_less p ws t xs y i (get_or f.cells i free) rests o.content;
    };
    once = f.once;
    placed = f.placed;
    single = λ r x e. f.single r x (at_longer xs (y ∷ []) r x e);
    noted = λ r x e. f.noted r x (at_longer xs (y ∷ []) r x e);
  }

  pub begun_again : (p q : ℕ) (ws : List ℕ) (t : Pairs) → fits kw vw L p ws t [] → fits kw vw L q ws t []
  begun_again p q ws t f = record {
    cells = f.cells;
    room = f.room;
    wide = f.wide;
    few = f.few;
    as_many = f.as_many;
    each = λ i l. let o : PlaceOk kw vw L p ws t [] i (get_or f.cells i free) = f.each i l in record { shows = o.shows; read = o.read; content = again i (get_or f.cells i free) o.content };
    once = f.once;
    placed = f.placed;
    single = λ r x e. absurd (some-ne-none x (sym e));
    noted = λ r x e. absurd (some-ne-none x (sym e));
  }
    where
      again : (i : ℕ) (c : Cell) → IsContent kw vw L p ws t [] i c → IsContent kw vw L q ws t [] i c
      again i free h = h
      again i (kept k) h = h
      again i (busy l r k old v n) h = absurd (some-ne-none h.5.note (sym h.5.there))

-- a pass comes at rest
pub rests : (p : ℕ) → at_rest p rest ≡ true
rests p = or_true (p == filling)
  where
    or_true : (b : Bool) → (b || true) ≡ true
    or_true true = refl
    or_true false = refl

-- the same laws of the whole rule
module _ (kw vw : ℕ) (key value : List ℕ → Bool) (L : Shape) where
  pub comes : (p : ℕ) (ws : List ℕ) (t : Pairs) (xs : List Note) → length xs < ranks L → Holds kw vw key value L p ws t xs → Holds kw vw key value L p ws t (xs ++ rest ∷ [])
  comes p ws t xs room h = record { places = admitted kw vw L p ws t xs room h.places; typed = h.typed }

  pub goes : (p : ℕ) (ws : List ℕ) (t : Pairs) (xs : List Note) (y : Note) → at_rest p y ≡ true → Holds kw vw key value L p ws t (xs ++ y ∷ []) → Holds kw vw key value L p ws t xs
  goes p ws t xs y rests h = record { places = released kw vw L p ws t xs y (and_parts (list_all is_known y.claims) _ rests).0 h.places; typed = h.typed }

  pub begins : (p q : ℕ) (ws : List ℕ) (t : Pairs) → Holds kw vw key value L p ws t [] → Holds kw vw key value L q ws t []
  begins p q ws t h = record { places = begun_again kw vw L p q ws t h.places; typed = h.typed }
