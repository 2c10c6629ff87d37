-- Whether two keys are the same, and whether the state has a place for one.
use Rattle.std.proofs.Common.{◌≡◌, ◌≢◌, ℕ, zero, suc, ◌<◌, ◌⊎◌, inl, inr, List, [], ◌∷◌, length, get_or, refl, sym, ap, ◌∙◌, arith, Option, Some, None}
use Rattle.std.specs.declared.cmp.Ordering.{Ordering}
use Rattle.std.specs.declared.cmp.Ordering.TheVariants.{Less, Equal, Greater}
use Rattle.std.specs.Ordering.{nat_cmp}
use Rattle.std.specs.Cmp.{nat_cmp_total, tied_itself}
use Rattle.std.specs.Cmp.Lexicographic.{slice_cmp, lists_total}
use Rattle.std.proofs.lemmas.Map.Lookups.{exact_bytes}
use mathlib.Core.Option.{some, some-ne-none, some-injective}
use Rattle.bcl_event.specs.Map.{Pairs, value_at}
use Rattle.bcl_map.specs.declared.shape.Shape.{Shape}
use Rattle.bcl_map.specs.Map.{places, Words, HasPlace}
use Rattle.bcl_map.specs.Cells.{Cell, free, kept, busy, key_of}
use Rattle.bcl_map.specs.Notes.{Note}
use Rattle.bcl_map.specs.Fits.{IsContent, Fits}

-- keys are alike or not
pub same_or_not : (a b : Words) → (a ≡ b) ⊎ (a ≢ b)
same_or_not a b = by (slice_cmp nat_cmp a b) refl
  where
    by : (o : Ordering) → slice_cmp nat_cmp a b ≡ o → (a ≡ b) ⊎ (a ≢ b)
    by Equal e = inl (exact_bytes a b e)
    by Less e = inr (λ z. let g : Less ≡ Equal = sym e ∙ (ap (λ (m : Words). slice_cmp nat_cmp m b) z ∙ tied_itself (lists_total nat_cmp_total) b) in cc)
    by Greater e = inr (λ z. let g : Greater ≡ Equal = sym e ∙ (ap (λ (m : Words). slice_cmp nat_cmp m b) z ∙ tied_itself (lists_total nat_cmp_total) b) in cc)

-- ---- the place of a key in the state

value_none : (o : Option Words) → ((v : Words) → o ≢ Some v) → o ≡ None
value_none None h = refl
value_none (Some v) h = absurd (h v refl)

-- a key without a place has no value
pub no_value : (k : Words) (t : Pairs) → (HasPlace k t → ⊥) → value_at k t ≡ None
no_value k t none = value_none (value_at k t) (λ v e. none (v, e))

-- a key whose value stays keeps its place
pub same_place : (k : Words) (t t' : Pairs) → value_at k t' ≡ value_at k t → HasPlace k t' → HasPlace k t
same_place k t t' same has = (has.0, sym same ∙ has.1)

at_end : (cs : List Cell) (j : ℕ) (k : Words) → key_of (get_or cs j free) ≡ some k → j < length cs
at_end [] j k e = absurd (some-ne-none k (sym e))
at_end (x ∷ xs) zero k e = omega arith
at_end (x ∷ xs) (suc j) k e = let l = at_end xs j k e in omega arith

-- the key of a cell has a place
pub has_place : (kw vw : ℕ) (L : Shape) (p : ℕ) (ws : List ℕ) (t : Pairs) (notes : List Note) (f : Fits kw vw L p ws t notes) (j : ℕ) (k : Words) → key_of (get_or f.cells j free) ≡ some k → HasPlace k t
has_place kw vw L p ws t notes f j k e = let l = at_end f.cells j k e in let room : length f.cells ≡ places L = f.room in go (get_or f.cells j free) ((f.each j (omega arith)).content) e
  where
    go : (c : Cell) → IsContent kw vw L p ws t notes j c → key_of c ≡ some k → HasPlace k t
    go free ok e = absurd (some-ne-none k (sym e))
    go (kept o) ok e = (ok.0, ap (λ (z : Words). value_at z t) (sym (some-injective o k e)) ∙ ok.1.2)
    go (busy l q o old v n) ok e = (v, ap (λ (z : Words). value_at z t) (sym (some-injective o k e)) ∙ ok.0.2)
