-- An array whose items are all the fill.
use Rattle.std.proofs.Common.{◌≡◌, ℕ, zero, suc, ◌+◌, ◌*◌, ◌<◌, ◌≤◌, List, [], ◌++◌, take, length, slice_index, sym, ap, ◌∙◌, subst, arith, length-append}
use Rattle.std.specs.Prelude.{Bool, true}
use Rattle.std.specs.List.{repeat}
use Rattle.std.proofs.lemmas.List.{length-replicate, get_or-replicate, get_or_append_left, get_or-append-add, get_or-take, length-take-le}
use mathlib.Core.Option.{some-ne-none}
use Rattle.bcl_words.specs.Words.{IsWords}
use Rattle.bcl_event.specs.Array.{item_at}
use Rattle.bcl_darray.specs.declared.array.Shape.{Shape}
use Rattle.bcl_darray.specs.Array.{size, start}
use Rattle.bcl_darray.specs.Fits.{Fits}

repeated : (n : ℕ) (xs : List ℕ) (i j : ℕ) → i < n → j < length xs → slice_index (repeat n xs) (i * length xs + j) ≡ slice_index xs j
repeated zero xs i j below low = absurd (omega arith)
repeated (suc n) xs zero j below low = ap (slice_index (xs ++ repeat n xs)) first ∙ get_or_append_left xs (repeat n xs) 0 j low
  where
    first : 0 * length xs + j ≡ j
    first = omega arith
repeated (suc n) xs (suc i) j below low = ap (slice_index (xs ++ repeat n xs)) further ∙ (get_or-append-add xs (repeat n xs) (i * length xs + j) 0 ∙ repeated n xs i j (omega arith) low)
  where
    further : suc i * length xs + j ≡ length xs + (i * length xs + j)
    further = omega arith

long : (n : ℕ) (xs : List ℕ) → length (repeat n xs) ≡ n * length xs
long zero xs = sym none
  where
    none : 0 * length xs ≡ 0
    none = omega arith
long (suc n) xs = length-append xs (repeat n xs) ∙ (ap (λ (m : ℕ). length xs + m) (long n xs) ∙ sym more)
  where
    more : suc n * length xs ≡ length xs + n * length xs
    more = omega arith

-- an item has as many words as it says
pub whole_words : (width : ℕ) (w : List ℕ) → width ≤ 8 → IsWords width w → length (take width w) ≡ width
whole_words width w most is = length-take-le width w (subst (λ (n : ℕ). width ≤ n) (sym is.len) most)

-- the words of the fill, as often as there are items
pub filled : (width : ℕ) (passes : List ℕ → Bool) (shape : Shape) (words : List ℕ) → passes shape.fill ≡ true → length (take width shape.fill) ≡ width → words ≡ repeat (size shape) (take width shape.fill) → Fits width passes shape 0 words (start shape) []
filled width passes shape words passed own is = record {
  count = ap length is ∙ (long (size shape) (take width shape.fill) ∙ ap (λ (w : ℕ). size shape * w) own);
  all = length-replicate (size shape) shape.fill;
  whole = λ i below. ap passes (item i below) ∙ passed;
  lies = λ i below j low. ap (λ (l : List ℕ). slice_index l (i * width + j)) is
      ∙ ap (λ (w : ℕ). slice_index (repeat (size shape) (take width shape.fill)) (i * w + j)) (sym own)
      ∙ repeated (size shape) (take width shape.fill) i j below (subst (λ (w : ℕ). j < w) (sym own) low)
      ∙ get_or-take width shape.fill j 0 low
      ∙ ap (λ (l : List ℕ). slice_index l j) (sym (item i below));
  flies = λ r x e. absurd (some-ne-none x (sym e));
}
  where
    item : (i : ℕ) → i < size shape → item_at i (start shape) ≡ shape.fill
    item i below = get_or-replicate (size shape) i shape.fill [] below
