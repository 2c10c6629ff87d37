-- What stays of how the words of an array fit, as one word and one note change.
use Rattle.std.proofs.Common.{◌≡◌, ◌≢◌, ℕ, zero, suc, ◌+◌, ◌*◌, ◌/◌, ◌<◌, ◌≤◌, List, [], ◌∷◌, slice_set, refl, sym, ap, ◌∙◌, subst, ⊎_elim, inl, inr, arith, length-set, get_or-set_same, get_or-set_other}
use Rattle.std.specs.Prelude.{Bool, true, false, ◌==◌, ◌⊎◌, if◌then◌else◌}
use Rattle.std.proofs.Math.Nat.{eq-or-lt_of_le, mul-le-mul_right}
use Rattle.std.proofs.lemmas.Bool.{false≢true, cases_lt}
use Rattle.std.proofs.lemmas.Bool.Decides.{Decides-eqb}
use mathlib.Core.Option as plain
use lib.ListN.{get_elem?}
use Rattle.atomic_table.proofs.Lists.{at_set}
use Rattle.bcl_event.specs.Array.{item_at}
use Rattle.bcl_phase.specs.Flights.{Lies}
use Rattle.bcl_phase.proofs.Flights.{lies_apart}
use Rattle.bcl_darray.specs.declared.array.Shape.{Shape}
use Rattle.bcl_darray.specs.declared.array.Note.{Note}
use Rattle.bcl_darray.specs.declared.array.Note.TheVariants.{Rest, Getting, Putting}
use Rattle.bcl_darray.specs.Array.{size}
use Rattle.bcl_darray.specs.Fits.{put_by, Flies, Fits}

-- ---- notes

pub put_most : (width : ℕ) (shape : Shape) (promise rank : ℕ) (items : List (List ℕ)) (x : plain.Option Note) (place : ℕ) → ((y : Note) → x ≡ plain.some y → Flies width shape promise rank items y) → put_by width x place ≤ width
put_most width shape promise rank items plain.none place fly = omega arith
put_most width shape promise rank items (plain.some Rest) place fly = omega arith
put_most width shape promise rank items (plain.some (Getting f)) place fly = omega arith
put_most width shape promise rank items (plain.some (Putting f)) place fly = at (f.place == place) (fly (Putting f) refl).3
  where
    at : (b : Bool) → f.count < width → (if b then f.count else width) ≤ width
    at true less = omega arith
    at false less = omega arith

-- where nobody puts, all words are put
pub put_all : (width : ℕ) (x : plain.Option Note) (place : ℕ) → ((f : _) → x ≡ plain.some (Putting f) → ⊥) → put_by width x place ≡ width
put_all width plain.none place nobody = refl
put_all width (plain.some Rest) place nobody = refl
put_all width (plain.some (Getting f)) place nobody = refl
put_all width (plain.some (Putting f)) place nobody = absurd (nobody f refl)

-- the note of one rank becomes another
pub put_again : (width place : ℕ) (xs : List Note) (q r : ℕ) (x y : Note) → get_elem? xs q ≡ plain.some x → put_by width (plain.some y) place ≡ put_by width (plain.some x) place
    → put_by width (get_elem? (slice_set xs q y) r) place ≡ put_by width (get_elem? xs r) place
put_again width place [] q r x y at same = absurd (plain.some-ne-none x (sym at))
put_again width place (z ∷ xs) zero zero x y at same = same ∙ ap (λ (w : plain.Option Note). put_by width w place) (sym at)
put_again width place (z ∷ xs) zero (suc r) x y at same = refl
put_again width place (z ∷ xs) (suc q) zero x y at same = refl
put_again width place (z ∷ xs) (suc q) (suc r) x y at same = put_again width place xs q r x y at same

-- ---- places

-- words of different items are different
pub apart_items : (width i k j l : ℕ) → i ≢ k → j < width → l < width → i * width + j ≢ k * width + l
apart_items width i k j l apart low low' same = ⊎_elim (λ (less : i < k). before i k j l less low same) (λ (less : k < i). before k i l j less low' (sym same)) (order i k apart)
  where
    before : (a b c d : ℕ) → a < b → c < width → a * width + c ≡ b * width + d → ⊥
    before a b c d less small e = let room : (a + 1) * width ≤ b * width = mul-le-mul_right width (omega arith) in let spread : (a + 1) * width ≡ a * width + width = omega arith in absurd (omega arith)

    order : (a b : ℕ) → a ≢ b → (a < b) ⊎ (b < a)
    order a b apart = ⊎_elim (λ (less : a < b). inl less) (λ (most : b ≤ a). ⊎_elim (λ (e : b ≡ a). absurd (apart (sym e))) (λ (less : b < a). inr less) (eq-or-lt_of_le most)) (cases_lt a b)

-- ---- what stays

module _ (width : ℕ) (passes : List ℕ → Bool) (shape : Shape) (promise : ℕ) where
  module _ (ws : List ℕ) (items : List (List ℕ)) (xs : List Note) (fit : Fits width passes shape promise ws items xs) where
    pub put_within : (place : ℕ) → put_by width (get_elem? xs (place / shape.per_rank)) place ≤ width
    put_within place = put_most width shape promise (place / shape.per_rank) items (get_elem? xs (place / shape.per_rank)) place (λ y e. fit.flies (place / shape.per_rank) y e)

    -- another note, of a call that has put as much
    pub renoted : (rank : ℕ) (x y : Note) → get_elem? xs rank ≡ plain.some x → ((place : ℕ) → put_by width (plain.some y) place ≡ put_by width (plain.some x) place) → Flies width shape promise rank items y
        → Fits width passes shape promise ws items (slice_set xs rank y)
    renoted rank x y at same fly = record {
      count = fit.count;
      all = fit.all;
      whole = fit.whole;
      lies = λ i below. subst (Lies ws (i * width) (item_at i items)) (sym (put_again width i xs rank (i / shape.per_rank) x y at (same i))) (fit.lies i below);
      flies = λ r z e. ⊎_elim (λ (t : (r ≡ rank) × (y ≡ z)). subst (λ (w : ℕ × Note). Flies width shape promise w.0 items w.1) (λ i. (sym t.0 i, t.1 i)) fly)
          (λ (t : (r ≢ rank) × (get_elem? xs r ≡ plain.some z)). fit.flies r z t.1) (at_set xs rank r y z e);
    }

    -- one word of an item is put, and the item becomes another
    pub changed : (xs' : List Note) (place j v : ℕ) (item : List ℕ) → place < size shape → j < width → passes item ≡ true
        → ((i : ℕ) → i ≢ place → put_by width (get_elem? xs' (i / shape.per_rank)) i ≡ put_by width (get_elem? xs (i / shape.per_rank)) i)
        → Lies (slice_set ws (place * width + j) v) (place * width) item (put_by width (get_elem? xs' (place / shape.per_rank)) place)
        → ((r : ℕ) (z : Note) → get_elem? xs' r ≡ plain.some z → Flies width shape promise r (slice_set items place item) z)
        → Fits width passes shape promise (slice_set ws (place * width + j) v) (slice_set items place item) xs'
    changed xs' place j v item within low passed others here fly = record {
      count = length-set ws (place * width + j) v ∙ fit.count;
      all = length-set items place item ∙ fit.all;
      whole = λ i below. whole_at i below (i == place) refl;
      lies = λ i below. lies_at i below (i == place) refl;
      flies = fly;
    }
      where
        item_here : (i : ℕ) → i ≡ place → item_at i (slice_set items place item) ≡ item
        item_here i e = ap (λ (k : ℕ). item_at k (slice_set items place item)) e ∙ get_or-set_same items place item [] (subst (λ (n : ℕ). place < n) (sym fit.all) within)

        item_there : (i : ℕ) → i ≢ place → item_at i (slice_set items place item) ≡ item_at i items
        item_there i apart = get_or-set_other items place i item [] apart

        whole_at : (i : ℕ) → i < size shape → (b : Bool) → (i == place) ≡ b → passes (item_at i (slice_set items place item)) ≡ true
        whole_at i below true e = ap passes (item_here i ((Decides-eqb i place).0 e)) ∙ passed
        whole_at i below false e = ap passes (item_there i (λ same. false≢true (sym e ∙ (Decides-eqb i place).1 same))) ∙ fit.whole i below

        lies_at : (i : ℕ) → i < size shape → (b : Bool) → (i == place) ≡ b
            → Lies (slice_set ws (place * width + j) v) (i * width) (item_at i (slice_set items place item)) (put_by width (get_elem? xs' (i / shape.per_rank)) i)
        lies_at i below true e = let same : i ≡ place = (Decides-eqb i place).0 e in
            subst (λ (w : ℕ × List ℕ). Lies (slice_set ws (place * width + j) v) (w.0 * width) w.1 (put_by width (get_elem? xs' (w.0 / shape.per_rank)) w.0)) (λ k. (sym same k, sym (item_here i same) k)) here
        lies_at i below false e = let apart : i ≢ place = λ same. false≢true (sym e ∙ (Decides-eqb i place).1 same) in
            let most = put_within i in
            subst (λ (w : List ℕ × ℕ). Lies (slice_set ws (place * width + j) v) (i * width) w.0 w.1) (λ k. (sym (item_there i apart) k, sym (others i apart) k))
            (lies_apart ws (i * width) (item_at i items) (put_by width (get_elem? xs (i / shape.per_rank)) i) (place * width + j) v (λ l less. apart_items width i place l j apart (omega arith) low) (fit.lies i below))
