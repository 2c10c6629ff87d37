-- The layout and the key of a pass, as they come from a home or a lead.
use Rattle.std.proofs.Common.{◌≡◌, ℕ, zero, suc, ◌+◌, ◌*◌, ◌≤◌, refl, ap, ◌∙◌, Option, Some, None, arith}
use Rattle.std.proofs.Math.Nat.{mul-zero, zero-mul}
use Rattle.bcl_words.specs.Words.{Fits, is_fit}
use Rattle.bcl_words.proofs.Fitting.{fits_of}
use Rattle.bcl_segment.specs.declared.layout.Layout.{Layout}
use Rattle.bcl_darray.specs.declared.array.Shape.{Shape}
use Rattle.bcl_segment.specs.Places.{places}
use Rattle.bcl_phase.specs.Seats.{IsLaid, IsLaidBy}
use Rattle.bcl_darray.specs.Array.{laid_out, IsShaped}
use Rattle.bcl_darray.specs.Calls.{IsSeated}

-- a shape with segments has items
some_items : (ranks per width : ℕ) → 1 ≤ ranks * (per * width) → 1 ≤ per
some_items ranks zero width e = absurd (let none : ranks * (zero * width) ≡ 0 = ap (λ (n : ℕ). ranks * n) (zero-mul width) ∙ mul-zero ranks in omega arith)
some_items ranks (suc per) width e = omega arith

pub shaped_by : (width heads : ℕ) (layout : Layout) (shape : Shape) → IsLaid (is_fit width) 0 (laid_out width shape) heads layout → IsShaped width heads layout shape
shaped_by width heads layout shape laid = let all : heads + places layout ≡ 0 + shape.ranks * (shape.per_rank * width) = λ i. laid.as_heads i + places (laid.as_layout i) in record {
  none = laid.as_heads;
  of_ranks = λ i. (laid.as_layout i).ranks;
  of_items = λ i. (laid.as_layout i).per_rank;
  some = some_items shape.ranks shape.per_rank width (let some = laid.some in omega arith);
  few = let few = laid.few in omega arith;
}

pub seated_by : (width : ℕ) (layout : Layout) (key : Option Shape) → IsLaidBy (λ _. is_fit width) (λ _. 0) (laid_out width) key layout → IsSeated width key layout
seated_by width layout key by = (by.some, λ shape is. shaped_by width 0 layout shape (by.laid shape is))

-- an item of a pass fits
pub pass_fits : (width : ℕ) (layout : Layout) (key : Option Shape) → IsLaidBy (λ _. is_fit width) (λ _. 0) (laid_out width) key layout → Fits width
pass_fits width layout None by = absurd (by.some refl)
pass_fits width layout (Some shape) by = fits_of width (by.laid shape refl).sound

-- the key that a pass has
pub shape_of : (width : ℕ) (key : Option Shape) (layout : Layout) → IsSeated width key layout → (shape : Shape) × (key ≡ Some shape) × IsShaped width 0 layout shape
shape_of width None layout seated = absurd (seated.0 refl)
shape_of width (Some shape) layout seated = (shape, refl, seated.1 shape refl)
