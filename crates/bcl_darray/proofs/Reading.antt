-- The words of an item, as a read gets them.
use Rattle.std.proofs.Common.{◌≡◌, ℕ, zero, suc, ◌+◌, ◌*◌, ◌<◌, ◌≤◌, List, [], ◌∷◌, length, slice_index, slice_set, refl, sym, ap, ◌∙◌, subst, arith}
use Rattle.std.specs.Prelude.{Bool, true}
use Rattle.bcl_words.specs.Words.{IsWords}
use Rattle.bcl_segment.specs.declared.layout.Layout.{Layout}
use Rattle.bcl_segment.specs.declared.layout.Spot.{Spot}
use Rattle.bcl_segment.specs.declared.layout.Spot.TheVariants.{Head}
use Rattle.bcl_segment.specs.Places.{IsSpot, word_at}
use Rattle.bcl_event.specs.Array.{item_at}
use Rattle.bcl_phase.specs.Rule.{Moves}
use Rattle.bcl_phase.specs.Flights.{Lies}
use Rattle.bcl_phase.proofs.Flights.{more_lies, whole_object}
use Rattle.bcl_darray.specs.declared.array.Shape.{Shape}
use Rattle.bcl_darray.specs.declared.array.Note.{Note}
use Rattle.bcl_darray.specs.declared.array.Note.TheVariants.{Rest, Getting, Putting}
use Rattle.bcl_darray.specs.Array.{size, next, permits, IsShaped}
use Rattle.bcl_darray.specs.Fits.{IsFixed, Fits}
use Rattle.bcl_darray.specs.Calls.{HasGot, IsSame, Gets, Reads, GetsWord, IsItemAt}
use Rattle.bcl_darray.proofs.Gets.{gets_word, got_all}

abbrev AllZeros : List ℕ → Type 0
AllZeros [] = Unit {0}
AllZeros (x ∷ l) = (x ≡ 0) × AllZeros l

-- before any is got
pub no_words : (k : ℕ) → slice_index (0 ∷ 0 ∷ 0 ∷ 0 ∷ 0 ∷ 0 ∷ 0 ∷ 0 ∷ []) k ≡ 0
no_words k = none (0 ∷ 0 ∷ 0 ∷ 0 ∷ 0 ∷ 0 ∷ 0 ∷ 0 ∷ []) k (refl, (refl, (refl, (refl, (refl, (refl, (refl, (refl, tt))))))))
  where
    none : (l : List ℕ) (k : ℕ) → AllZeros l → slice_index l k ≡ 0
    none [] k all = refl
    none (x ∷ l) zero all = all.0
    none (x ∷ l) (suc k) all = none l k all.1

-- ---- where its words stand

module _ (width heads : ℕ) (layout : Layout) (shape : Shape) (at index j : ℕ) (spot : Spot) (shaped : IsShaped width heads layout shape) (item : IsItemAt width layout at index)
    (is : spot ≡ Head (at + j)) where
  pub word_is : word_at heads layout spot ≡ index * width + j
  word_is = ap (word_at heads layout) is ∙ ap (λ (n : ℕ). n + j) item.first

  pub spot_is : j < width → IsSpot heads layout spot
  spot_is low = let room = item.room in subst (IsSpot heads layout) (sym is) (omega arith)

-- ---- what a step may do

pub gets_at : (width : ℕ) (passes : List ℕ → Bool) (shape : Shape) (promise rank place j w : ℕ) (got : List ℕ) (x : Note) → IsFixed shape promise rank place → place < size shape → j < width → w ≡ place * width + j → HasGot place j got x
    → Moves next permits (Fits width passes) shape promise rank x w (λ n. n) (GetsWord width passes place j x)
gets_at width passes shape promise rank place j w got x fixed within low at has = subst (λ (z : ℕ). Moves next permits (Fits width passes) shape promise rank x z (λ n. n) (GetsWord width passes place j x)) (sym at)
    (gets_word width passes shape promise rank place j got fixed within low x has)

-- ---- what was got

module _ (place j : ℕ) (got : List ℕ) (n : ℕ) where
  lies_so_far : (x : Note) (item : List ℕ) → HasGot place j got x → IsSame x item → Lies got 0 item j
  lies_so_far Rest item none same k less = absurd (omega arith)
  lies_so_far (Getting f) item has same k less = has.2 k less ∙ ap (λ (l : List ℕ). slice_index l k) (sym same)
  lies_so_far (Putting f) item has same k less = absurd has

  -- one word more
  pub got_next : length got ≡ 8 → j < 8 → (x after : Note) (items : List (List ℕ)) (did : _) → HasGot place j got x → Gets place j x n items did after → HasGot place (j + 1) (slice_set got j n) after
  got_next long room x after items did has fact = subst (HasGot place (j + 1) (slice_set got j n)) (sym fact.note) (refl, refl, more_lies got (item_at place items) j n long room (lies_so_far x (item_at place items) has fact.same) fact.word)

-- the last get makes them the item
pub last_word : (width : ℕ) (passes : List ℕ → Bool) → ((w : List ℕ) → passes w ≡ true → IsWords width w) → width ≤ 8 → (place j : ℕ) (got : List ℕ) → length got ≡ 8 → ((k : ℕ) → j ≤ k → slice_index got k ≡ 0) → j + 1 ≡ width
    → (x after : Note) (n : ℕ) (items : List (List ℕ)) (did : _) → HasGot place j got x → GetsWord width passes place j x n items did after → Reads passes place j x n items did after × (slice_set got j n ≡ item_at place items)
last_word width passes shape most place j got long zeros last x after n items did has told =
    let fact : Reads passes place j x n items did after = got_all width passes place j x n items did after last told in
    (fact, whole_object width got (item_at place items) j n long (omega arith) (lies_so_far place j got n x (item_at place items) has fact.same) fact.word zeros last (shape (item_at place items) fact.whole))
