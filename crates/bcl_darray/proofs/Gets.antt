-- A read of an item: a get of each of its words.
use Rattle.std.proofs.Common.{◌≡◌, ◌≢◌, ℕ, ◌+◌, ◌*◌, ◌/◌, ◌<◌, List, [], ◌∷◌, slice_index, slice_set, refl, sym, ap, ◌∙◌, subst, ⊎_elim, arith}
use Rattle.std.specs.Prelude.{Bool, true, false, ◌==◌}
use Rattle.std.proofs.lemmas.Bool.{false≢true}
use Rattle.std.proofs.lemmas.Bool.Decides.{Decides-eqb}
use Rattle.std.proofs.lemmas.List.Elements.{All-nil, All-cons}
use mathlib.Core.Option as plain
use lib.ListN.{get_elem?}
use lib.Seq.{set-get_or}
use Rattle.bcl_event.specs.declared.array.ArrayCall.TheVariants.{Read}
use Rattle.bcl_event.specs.Array.{item_at}
use Rattle.bcl_phase.specs.Rule.{Moves}
use Rattle.bcl_darray.specs.declared.array.Shape.{Shape}
use Rattle.bcl_darray.specs.declared.array.Note.{Note}
use Rattle.bcl_darray.specs.declared.array.Note.TheVariants.{Rest, Getting, Putting}
use Rattle.bcl_darray.specs.Array.{size, next, permits}
use Rattle.bcl_darray.specs.Fits.{owning, reading, put_by, IsFixed, Flies, Fits}
use Rattle.bcl_darray.specs.Calls.{flight, HasGot, IsSame, Gets, Reads, GetsBy, GetsWord}
use Rattle.bcl_darray.proofs.Frames.{put_all, renoted}

module _ (width : ℕ) (passes : List ℕ → Bool) (shape : Shape) (promise rank place j : ℕ) (got : List ℕ) (fixed : IsFixed shape promise rank place) (within : place < size shape) (low : j < width) where
  may_read : permits shape promise rank (Read place)
  may_read = ⊎_elim (λ (t : (promise ≡ owning) × (place / shape.per_rank ≡ rank)). subst (λ (p : ℕ). permits shape p rank (Read place)) (sym t.0) t.1)
      (λ (t : promise ≡ reading). subst (λ (p : ℕ). permits shape p rank (Read place)) (sym t) tt) fixed

  -- a note that has got words has put none
  same_put : (x y : Note) → HasGot place j got x → ((p : ℕ) → put_by width (plain.some y) p ≡ width) → (p : ℕ) → put_by width (plain.some y) p ≡ put_by width (plain.some x) p
  same_put Rest y has all p = all p
  same_put (Getting f) y has all p = all p
  same_put (Putting f) y has all p = absurd has

  not_putting : (x : Note) (f : _) → HasGot place j got x → x ≡ Putting f → ⊥
  not_putting x f has e = subst (HasGot place j got) e has

  module _ (x : Note) (has : HasGot place j got x) (ws : List ℕ) (items : List (List ℕ)) (xs : List Note) (at : get_elem? xs rank ≡ plain.some x) (fit : Fits width passes shape promise ws items xs) where
    -- all words of the item are put
    none_puts : (f : _) → get_elem? xs (place / shape.per_rank) ≡ plain.some (Putting f) → ⊥
    none_puts f e = ⊎_elim
        (λ (t : (promise ≡ owning) × (place / shape.per_rank ≡ rank)). not_putting x f has (plain.some-injective x (Putting f) (sym at ∙ (ap (get_elem? xs) (sym t.1) ∙ e))))
        (λ (t : promise ≡ reading). let own : promise ≡ owning = (fit.flies (place / shape.per_rank) (Putting f) e).0 in absurd (omega arith)) fixed

    found : slice_index ws (place * width + j) ≡ slice_index (item_at place items) j
    found = fit.lies place within j (subst (λ (n : ℕ). j < n) (sym (put_all width (get_elem? xs (place / shape.per_rank)) place none_puts)) low)

    unchanged : (y : Note) → HasGot place j got y → get_elem? xs rank ≡ plain.some y → IsSame y (item_at place items)
    unchanged Rest so e = tt
    unchanged (Getting f) so e = ap (λ (p : ℕ). item_at p items) (sym so.0) ∙ (fit.flies rank (Getting f) e).1
    unchanged (Putting f) so e = absurd so

    fits_after : (y : Note) → ((p : ℕ) → put_by width (plain.some y) p ≡ width) → Flies width shape promise rank items y
        → Fits width passes shape promise (slice_set ws (place * width + j) (slice_index ws (place * width + j))) items (slice_set xs rank y)
    fits_after y all fly = subst (λ (l : List ℕ). Fits width passes shape promise l items (slice_set xs rank y)) (sym (set-get_or ws (place * width + j) 0))
        (renoted width passes shape promise ws items xs fit rank x y at (same_put x y has all) fly)

  -- not the last word
  gets : (x : Note) → HasGot place j got x → j + 1 < width → Moves next permits (Fits width passes) shape promise rank x (place * width + j) (λ n. n) (Gets place j x)
  gets x has more ws items xs at fit small = (
    [],
    Getting (flight place (item_at place items) (j + 1)),
    All-nil (permits shape promise rank),
    fits_after x has ws items xs at fit (Getting (flight place (item_at place items) (j + 1))) (λ p. refl) (fixed, refl, more),
    record { none = refl; note = refl; word = found x has ws items xs at fit; same = unchanged x has ws items xs at fit x has at },
  )

  -- the last word
  reads : (x : Note) → HasGot place j got x → Moves next permits (Fits width passes) shape promise rank x (place * width + j) (λ n. n) (Reads passes place j x)
  reads x has ws items xs at fit small = (
    Read place ∷ [],
    Rest,
    All-cons (permits shape promise rank) (Read place) [] may_read (All-nil (permits shape promise rank)),
    fits_after x has ws items xs at fit Rest (λ p. refl) tt,
    record { one = refl; note = refl; word = found x has ws items xs at fit; same = unchanged x has ws items xs at fit x has at; whole = fit.whole place within },
  )

  pub gets_word : (x : Note) → HasGot place j got x → Moves next permits (Fits width passes) shape promise rank x (place * width + j) (λ n. n) (GetsWord width passes place j x)
  gets_word x has = by (j + 1 == width) refl
    where
      by : (b : Bool) → (j + 1 == width) ≡ b → Moves next permits (Fits width passes) shape promise rank x (place * width + j) (λ n. n) (GetsBy b passes place j x)
      by true e = reads x has
      by false e = gets x has (let apart : j + 1 ≢ width = λ same. false≢true (sym e ∙ (Decides-eqb (j + 1) width).1 same) in omega arith)

-- what the step tells, where words are left
pub got_more : (width : ℕ) (passes : List ℕ → Bool) (place j : ℕ) (before : Note) (n : ℕ) (items : List (List ℕ)) (did : _) (after : Note) → j + 1 ≢ width → GetsWord width passes place j before n items did after → Gets place j before n items did after
got_more width passes place j before n items did after more fact = by (j + 1 == width) refl fact
  where
    by : (b : Bool) → (j + 1 == width) ≡ b → GetsBy b passes place j before n items did after → Gets place j before n items did after
    by true e fact = absurd (more ((Decides-eqb (j + 1) width).0 e))
    by false e fact = fact

-- and where none is
pub got_all : (width : ℕ) (passes : List ℕ → Bool) (place j : ℕ) (before : Note) (n : ℕ) (items : List (List ℕ)) (did : _) (after : Note) → j + 1 ≡ width → GetsWord width passes place j before n items did after → Reads passes place j before n items did after
got_all width passes place j before n items did after none fact = by (j + 1 == width) refl fact
  where
    by : (b : Bool) → (j + 1 == width) ≡ b → GetsBy b passes place j before n items did after → Reads passes place j before n items did after
    by true e fact = fact
    by false e fact = absurd (false≢true (sym e ∙ (Decides-eqb (j + 1) width).1 none))
