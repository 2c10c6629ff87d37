-- What a get shows, and what is known of a place on a path.
use Rattle.std.proofs.Common.{◌≡◌, ◌≢◌, ℕ, suc, ◌+◌, ◌*◌, ◌/◌, ◌%◌, ◌<◌, List, set, get_or, slice_index, slice_set, sym, ap, ◌∙◌, subst, arith, mod-lt, lt_of_not-le}
use Rattle.std.specs.List.{All}
use Rattle.std.proofs.Math.Nat.{div-lt_iff_lt-mul, pos_of_ne-zero}
use native.Mathlib.Decide.{ℕ_discrete, dec_le}
use mathlib.Core.Logic.{dite}
use mathlib.Core.Option.{some, some-ne-none, some-injective}
use lib.ListN.{get_elem?}
use lib.Seq.{set-get_or}
use Rattle.bcl_map.specs.declared.shape.Shape.{Shape}
use Rattle.bcl_event.specs.History.{state_by}
use Rattle.bcl_event.specs.declared.map.MapCall.{MapCall}
use Rattle.bcl_event.specs.Map.{Pairs}
use Rattle.bcl_map.specs.Map.{places, Words, Lawful, HasPlace, begins_at, home, path, next, permits, tag}
use Rattle.bcl_map.specs.Cells.{Cell, free, kept, busy, key_of, used, Bars, control}
use Rattle.bcl_map.specs.declared.note.Lock.TheVariants.{Shown as shown, Reserved as reserved, Held as held}
use Rattle.bcl_map.specs.Notes.{passed, Note, reads_all, Says, AllSay}
use Rattle.bcl_map.specs.Fits.{Fits, fits}
use Rattle.bcl_map.proofs.Counts.{bars_not, in_use}
use Rattle.bcl_map.proofs.Frames.{SameAt, renotes}

-- the fields of a control word
tag_of : (s h r : ℕ) → s < 256 → h < 256 → (s + h * 256 + r * 65536) / 256 % 256 ≡ h
tag_of s h r ls lh = omega arith

tag_alone : (s h : ℕ) → s < 256 → h < 256 → (s + h * 256) / 256 % 256 ≡ h
tag_alone s h ls lh = omega arith

module _ (L : Shape) (law : Lawful L) where
  pub near : (k : Words) (d : ℕ) → path L k d < places L
  near k d = mod-lt _ law.some_place

  -- a home fits into its field of a control word
  pub low_home : (k : Words) → home L k < 256
  low_home k = let under : home L k < L.ranks = (div-lt_iff_lt-mul {k = L.per_rank} {x = begins_at L k} {y = L.ranks} per).1 (mod-lt _ law.some_place) in let few = law.few_ranks in omega arith
    where
      per : 0 < L.per_rank
      per = pos_of_ne-zero (λ none. let room : 0 < places L = law.some_place in let hollow : places L ≡ L.ranks * 0 = ap (λ (n : ℕ). L.ranks * n) none in omega arith)

  -- a place in use shows the home of its key
  pub shows_tag : (n : ℕ) (c : Cell) (o : Words) → key_of c ≡ some o → (control L n c ≢ 0) × (tag (control L n c) ≡ home L o)
  shows_tag n free o e = absurd (some-ne-none o (sym e))
  shows_tag n (kept k) o e = let is : k ≡ o = some-injective k o e in let low = low_home k in
      ((λ z. omega arith), tag_of 2 (home L k) n (omega arith) low ∙ ap (home L) is)
  shows_tag n (busy shown q k old v m) o e = let is : k ≡ o = some-injective k o e in let low = low_home k in
      ((λ z. omega arith), tag_alone 2 (home L k) (omega arith) low ∙ ap (home L) is)
  shows_tag n (busy reserved q k old v m) o e = let is : k ≡ o = some-injective k o e in let low = low_home k in
      ((λ z. omega arith), tag_alone 1 (home L k) (omega arith) low ∙ ap (home L) is)
  shows_tag n (busy held q k old v m) o e = let is : k ≡ o = some-injective k o e in let low = low_home k in
      ((λ z. omega arith), tag_alone 3 (home L k) (omega arith) low ∙ ap (home L) is)

  -- one place more is passed
  pub passed_more : (p : ℕ) (t : Pairs) (cells : List Cell) (r : ℕ) (k : Words) (d : ℕ) → Says L p t cells r (passed k d) → Bars k (get_or cells (path L k d) free) → Says L p t cells r (passed k (suc d))
  passed_more p t cells r k d h bars e l = dite (ℕ_discrete e d)
      (λ (same : e ≡ d). subst (λ (z : ℕ). Bars k (get_or cells (path L k z) free)) (sym same) bars)
      (λ ne. h e (omega arith))

  module _ (kw vw : ℕ) (p : ℕ) (ws : List ℕ) (t : Pairs) (notes : List Note) (f : Fits kw vw L p ws t notes) where
    -- a key is absent where its path ends, behind places of other keys
    pub absent_behind : (k : Words) (d : ℕ) → ((e : ℕ) → e < d → Bars k (get_or f.cells (path L k e) free)) → used (get_or f.cells (path L k d) free) ≡ 0 → HasPlace k t → ⊥
    absent_behind k d others hollow has = let pl = f.placed k has in let inside = in_use (get_or f.cells (path L k pl.d) free) k pl.there in dite (dec_le d pl.d)
        (λ le. dite (ℕ_discrete d pl.d)
        (λ same. let zero_there : used (get_or f.cells (path L k pl.d) free) ≡ 0 = subst (λ (z : ℕ). used (get_or f.cells (path L k z) free) ≡ 0) same hollow in omega arith)
        (λ ne. let one = pl.before d (omega arith) in omega arith))
        (λ no. bars_not k (get_or f.cells (path L k pl.d) free) (others pl.d (lt_of_not-le no)) pl.there)

    pub absent_at_end : (k : Words) → ((e : ℕ) → e < places L → Bars k (get_or f.cells (path L k e) free)) → HasPlace k t → ⊥
    absent_at_end k others has = let pl = f.placed k has in bars_not k (get_or f.cells (path L k pl.d) free) (others pl.d pl.within) pl.there

  module _ (kw vw : ℕ) (op : Words → Words → Words) where
    -- what a get shows: the note after it, and its calls, which leave the state as it is
    pub gets : (p r : ℕ) (x : Note) (i : ℕ) (tells : ℕ → Pairs → List (MapCall Words Words) → Note → Type 0) (ws : List ℕ) (t : Pairs) (notes : List Note) (f : Fits kw vw L p ws t notes) (y : Note) (did : List (MapCall Words Words))
        → get_elem? notes r ≡ some x → ((j : ℕ) → SameAt j x y) → AllSay L p t f.cells r y.claims → ((j : ℕ) → reads_all j y.claims ≡ 0) → All (permits L p r) did → state_by (next op L) t did ≡ t → tells (slice_index ws i) t did y
        → (did' : List (MapCall Words Words)) × (y' : Note) × All (permits L p r) did' × fits kw vw L p (slice_set ws i (slice_index ws i)) (state_by (next op L) t did') (set notes r y') × tells (slice_index ws i) t did' y'
    gets p r x i tells ws t notes f y did is same says none_read may still told = (
      did,
      y,
      may,
      subst (λ (z : List ℕ × Pairs). Fits kw vw L p z.0 z.1 (set notes r y)) (λ j. (sym (set-get_or ws i 0) j, sym still j)) (renotes kw vw L p ws t notes f r x y is same says (λ j. let z = none_read j in omega arith)),
      told,
    )
