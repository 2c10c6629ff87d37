-- A call of one step, on an item of one word.
use Rattle.std.proofs.Common.{◌≡◌, ℕ, ◌+◌, ◌*◌, ◌/◌, ◌%◌, ◌^◌, ◌<◌, List, [], ◌∷◌, slice_index, slice_set, refl, sym, ap, ◌∙◌, subst, ⊎_elim, arith}
use Rattle.std.specs.Prelude.{Bool, true, min}
use Rattle.std.proofs.lemmas.List.Elements.{All-nil, All-cons}
use lib.ListN.{get_elem?}
use lib.Seq.{set-get_or}
use Rattle.atomic_table.proofs.Lists.{set_again}
use Rattle.bcl_words.specs.Words.{IsWords}
use Rattle.bcl_words.specs.Numbers.{one_word, is_below}
use Rattle.bcl_words.specs.NumberLaws.{one_shape, one_passes}
use Rattle.bcl_event.specs.declared.array.ArrayCall.{ArrayCall}
use Rattle.bcl_event.specs.declared.array.ArrayCall.TheVariants.{Read, Write, FetchAdd, FetchMin}
use Rattle.bcl_event.specs.declared.array.ArrayReply.{ArrayReply}
use Rattle.bcl_event.specs.declared.array.ArrayReply.TheVariants.{Value, Done, Was}
use Rattle.bcl_event.specs.Array.{item_at, array_step}
use Rattle.bcl_phase.specs.Rule.{Moves}
use Rattle.bcl_phase.proofs.Flights.{lies_put}
use Rattle.bcl_darray.specs.declared.array.Shape.{Shape}
use Rattle.bcl_darray.specs.declared.array.Note.{Note}
use Rattle.bcl_darray.specs.declared.array.Note.TheVariants.{Rest, Getting, Putting}
use Rattle.bcl_darray.specs.Array.{size, next, permits}
use Rattle.bcl_darray.specs.Fits.{owning, reading, anything, put_by, Flies, Fits}
use Rattle.bcl_darray.specs.Calls.{Makes}
use Rattle.bcl_darray.proofs.Frames.{put_all, changed}
use Rattle.bcl_darray.proofs.Puts.{spot_within}

-- the item is a number
abbrev is_number : List ℕ → Bool
is_number = is_below (2 ^ 64)

its_word : (w : List ℕ) → is_number w ≡ true → w ≡ one_word (slice_index w 0)
its_word w p = by w (one_shape (2 ^ 64) w p)
  where
    by : (w : List ℕ) → IsWords 1 w → w ≡ one_word (slice_index w 0)
    by [] is = let none = is.len in absurd (omega arith)
    by (x ∷ rest) is = ap (λ (l : List ℕ). x ∷ l) is.zeros

module _ (shape : Shape) (promise rank place : ℕ) (any : promise ≡ anything) (within : place < size shape) where
  -- no call is in flight
  still : (items items' : List (List ℕ)) (r : ℕ) (z : Note) → Flies 1 shape promise r items z → Flies 1 shape promise r items' z
  still items items' r Rest fly = tt
  still items items' r (Getting f) fly = ⊎_elim (λ (t : (promise ≡ owning) × (f.place / shape.per_rank ≡ r)). let own = t.0 in absurd (omega arith)) (λ (t : promise ≡ reading). absurd (omega arith)) fly.0
  still items items' r (Putting f) fly = let own = fly.0 in absurd (omega arith)

  module _ (ws : List ℕ) (items : List (List ℕ)) (xs : List Note) (fit : Fits 1 is_number shape promise ws items xs) where
    all_put : put_by 1 (get_elem? xs (place / shape.per_rank)) place ≡ 1
    all_put = put_all 1 (get_elem? xs (place / shape.per_rank)) place (λ f e. let own : promise ≡ owning = (fit.flies (place / shape.per_rank) (Putting f) e).0 in absurd (omega arith))

    found : item_at place items ≡ one_word (slice_index ws (place * 1 + 0))
    found = its_word (item_at place items) (fit.whole place within)
        ∙ ap one_word (sym (fit.lies place within 0 (subst (λ (n : ℕ). 0 < n) (sym all_put) (omega arith))))

    replaced : (n : ℕ) → n < 2 ^ 64 → Fits 1 is_number shape promise (slice_set ws (place * 1 + 0) n) (slice_set items place (one_word n)) xs
    replaced n small = changed 1 is_number shape promise ws items xs fit xs place 0 n (one_word n) within (omega arith) (one_passes (2 ^ 64) n small (omega arith)) (λ i apart. refl)
        (subst (λ (m : ℕ). (k : ℕ) → k < m → slice_index (slice_set ws (place * 1 + 0) n) (place * 1 + k) ≡ slice_index (one_word n) k) (sym all_put)
        (lies_put ws (place * 1) (one_word n) 0 (subst (λ (m : ℕ). place * 1 + 0 < m) (sym fit.count) (spot_within 1 (size shape) place 0 within (omega arith))) (λ k less. absurd (omega arith))))
        (λ r z e. still items (slice_set items place (one_word n)) r z (fit.flies r z e))

  -- a call that makes f of the number, and is answered by the number that it found
  module _ (call : ArrayCall (List ℕ)) (f : ℕ → ℕ) (reply : ℕ → ArrayReply (List ℕ)) (small : (n : ℕ) → n < 2 ^ 64 → f n < 2 ^ 64)
      (after : (items : List (List ℕ)) (n : ℕ) → item_at place items ≡ one_word n → (array_step items call).1 ≡ slice_set items place (one_word (f n)))
      (answer : (items : List (List ℕ)) (n : ℕ) → item_at place items ≡ one_word n → (array_step items call).0 ≡ reply n) where
    step : Moves next permits (Fits 1 is_number) shape promise rank Rest (place * 1 + 0) f (λ n items did y. Makes call (reply n) Rest items did y)
    step ws items xs at fit low = (
      call ∷ [],
      Rest,
      All-cons (permits shape promise rank) call [] (subst (λ (p : ℕ). permits shape p rank call) (sym any) tt) (All-nil (permits shape promise rank)),
      subst (λ (z : List (List ℕ) × List Note). Fits 1 is_number shape promise (slice_set ws (place * 1 + 0) (f (slice_index ws (place * 1 + 0)))) z.0 z.1)
          (λ i. (sym (after items (slice_index ws (place * 1 + 0)) (found ws items xs fit)) i, sym (set_again xs rank Rest at) i))
          (replaced ws items xs fit (f (slice_index ws (place * 1 + 0))) (small (slice_index ws (place * 1 + 0)) low)),
      record { one = refl; answer = answer items (slice_index ws (place * 1 + 0)) (found ws items xs fit); left = refl },
    )

  pub loads : Moves next permits (Fits 1 is_number) shape promise rank Rest (place * 1 + 0) (λ n. n) (λ n items did y. Makes (Read place) (Value (one_word n)) Rest items did y)
  loads = step (Read place) (λ n. n) (λ n. Value (one_word n)) (λ n low. low) (λ items n is. sym (ap (slice_set items place) (sym is) ∙ set-get_or items place [])) (λ items n is. ap (λ (w : List ℕ). Value w) is)

  pub stores : (v : ℕ) → v < 2 ^ 64 → Moves next permits (Fits 1 is_number) shape promise rank Rest (place * 1 + 0) (λ _. v) (λ n items did y. Makes (Write place (one_word v)) Done Rest items did y)
  stores v small = step (Write place (one_word v)) (λ _. v) (λ _. Done) (λ n low. small) (λ items n is. refl) (λ items n is. refl)

  pub adds : (v : ℕ) → Moves next permits (Fits 1 is_number) shape promise rank Rest (place * 1 + 0) (λ n. (n + v) % 2 ^ 64) (λ n items did y. Makes (FetchAdd place v) (Was n) Rest items did y)
  adds v = step (FetchAdd place v) (λ n. (n + v) % 2 ^ 64) (λ n. Was n) (λ n low. omega arith)
      (λ items n is. ap (λ (w : List ℕ). slice_set items place (one_word ((slice_index w 0 + v) % 2 ^ 64))) is) (λ items n is. ap (λ (w : List ℕ). Was (slice_index w 0)) is)

  pub lessens : (v : ℕ) → Moves next permits (Fits 1 is_number) shape promise rank Rest (place * 1 + 0) (λ n. min n v) (λ n items did y. Makes (FetchMin place v) (Was n) Rest items did y)
  lessens v = step (FetchMin place v) (λ n. min n v) (λ n. Was n) (λ n low. omega arith)
      (λ items n is. ap (λ (w : List ℕ). slice_set items place (one_word (min (slice_index w 0) v))) is) (λ items n is. ap (λ (w : List ℕ). Was (slice_index w 0)) is)

-- ---- the same at a word that is the item's, with a note that is known

module _ (shape : Shape) (promise rank place : ℕ) (any : promise ≡ anything) (within : place < size shape) (w : ℕ) (x : Note) (at : w ≡ place) (rest : x ≡ Rest) where
  -- an item is one word
  one : place * 1 + 0 ≡ w
  one = omega arith

  pub loads_at : Moves next permits (Fits 1 is_number) shape promise rank x w (λ n. n) (λ n items did y. Makes (Read place) (Value (one_word n)) Rest items did y)
  loads_at = subst (λ (z : ℕ × Note). Moves next permits (Fits 1 is_number) shape promise rank z.1 z.0 (λ n. n) (λ n items did y. Makes (Read place) (Value (one_word n)) Rest items did y)) (λ i. (one i, sym rest i)) (loads shape promise rank place any within)

  pub stores_at : (v : ℕ) → v < 2 ^ 64 → Moves next permits (Fits 1 is_number) shape promise rank x w (λ _. v) (λ _ items did y. Makes (Write place (one_word v)) Done Rest items did y)
  stores_at v small = subst (λ (z : ℕ × Note). Moves next permits (Fits 1 is_number) shape promise rank z.1 z.0 (λ _. v) (λ _ items did y. Makes (Write place (one_word v)) Done Rest items did y)) (λ i. (one i, sym rest i)) (stores shape promise rank place any within v small)

  pub adds_at : (v : ℕ) → Moves next permits (Fits 1 is_number) shape promise rank x w (λ n. (n + v) % 2 ^ 64) (λ n items did y. Makes (FetchAdd place v) (Was n) Rest items did y)
  adds_at v = subst (λ (z : ℕ × Note). Moves next permits (Fits 1 is_number) shape promise rank z.1 z.0 (λ n. (n + v) % 2 ^ 64) (λ n items did y. Makes (FetchAdd place v) (Was n) Rest items did y)) (λ i. (one i, sym rest i)) (adds shape promise rank place any within v)

  pub lessens_at : (v : ℕ) → Moves next permits (Fits 1 is_number) shape promise rank x w (λ n. min n v) (λ n items did y. Makes (FetchMin place v) (Was n) Rest items did y)
  lessens_at v = subst (λ (z : ℕ × Note). Moves next permits (Fits 1 is_number) shape promise rank z.1 z.0 (λ n. min n v) (λ n items did y. Makes (FetchMin place v) (Was n) Rest items did y)) (λ i. (one i, sym rest i)) (lessens shape promise rank place any within v)
