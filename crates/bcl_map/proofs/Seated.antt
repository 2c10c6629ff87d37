-- The layout and the key of a pass, as they come from the map's owner or from a lead.
use Rattle.std.proofs.Common.{◌≡◌, ℕ, zero, suc, ◌+◌, ◌*◌, ◌/◌, ◌^◌, ◌<◌, ◌≤◌, arith, ap, refl, sym, ◌∙◌, Option, Some, None}
use Rattle.std.specs.Prelude.{true, ◌==◌}
use Rattle.std.proofs.lemmas.Bool.{and_parts, leb-true}
use Rattle.std.proofs.lemmas.Bool.Decides.{Decides-eqb}
use Rattle.std.proofs.Math.Nat.{mul-zero, zero-mul}
use Rattle.bcl_words.specs.Words.{Fits, is_fit}
use Rattle.bcl_words.proofs.Fitting.{fits_of}
use Rattle.bcl_segment.specs.declared.layout.Layout.{Layout}
use Rattle.bcl_segment.specs.Places as segment
use Rattle.bcl_map.specs.declared.shape.Shape.{Shape}
use Rattle.bcl_bucket.specs.Paths.{start_of}
use Rattle.bcl_map.specs.Map.{Words, places, size, home, laid_out, is_sound, IsShaped}
use Rattle.bcl_phase.specs.Seats.{IsLaid, IsLaidBy}
use Rattle.bcl_map.specs.Calls.{MapView, IsMine, IsSeated}
use Rattle.bcl_map.proofs.Walks.{some_places, few_words, few_places, buckets_by, places_by, home_by}

some_same : (a b : Shape) → Some a ≡ Some b → a ≡ b
some_same a b e = cc

-- a shape with segments has buckets
some_buckets_there : (ranks per width : ℕ) → 1 ≤ ranks * (per * width) → 1 ≤ per
some_buckets_there ranks zero width e = absurd (let none : ranks * (zero * width) ≡ 0 = ap (λ (n : ℕ). ranks * n) (zero-mul width) ∙ mul-zero ranks in omega arith)
some_buckets_there ranks (suc per) width e = omega arith

-- what is sound of a shape
module _ (kw vw : ℕ) (L : Shape) (sound : is_sound kw vw L ≡ true) where
  tests : (is_fit kw ≡ true) × (is_fit vw ≡ true) × (L.width ≡ kw) × (L.ranks ≤ 64)
  tests = let one = and_parts (is_fit kw) _ sound in let two = and_parts (is_fit vw) _ one.1 in let three = and_parts (L.width == kw) _ two.1 in (one.0, two.0, (Decides-eqb _ _).0 three.0, leb-true _ _ three.1)

  pub key_fits : Fits kw
  key_fits = fits_of kw tests.0

  pub value_fits : Fits vw
  value_fits = fits_of vw tests.1

pub shaped_by : (kw vw heads : ℕ) (layout : Layout) (L : Shape) → IsLaid (is_sound kw vw L) 0 (laid_out kw vw L) heads layout → IsShaped kw vw heads layout L
shaped_by kw vw heads layout L laid = let all : heads + segment.places layout ≡ 0 + L.ranks * (L.per_rank * size kw vw) = λ i. laid.as_heads i + segment.places (laid.as_layout i) in let is = tests kw vw L laid.sound in record {
  none = laid.as_heads;
  of_ranks = λ i. (laid.as_layout i).ranks;
  of_buckets = λ i. (laid.as_layout i).per_rank;
  wide = is.2;
  some_ranks = let manned = laid.manned in let same : layout.ranks ≡ L.ranks = (λ i. (laid.as_layout i).ranks) in omega arith;
  few_ranks = is.3;
  some = some_buckets_there L.ranks L.per_rank (size kw vw) (let some = laid.some in omega arith);
  few = let few = laid.few in omega arith;
}

-- the same of the key and the layout of a pass
module _ (kw vw : ℕ) (key : Option Shape) (layout : Layout) (by : IsLaidBy (is_sound kw vw) (λ _. 0) (laid_out kw vw) key layout) where
  pub seated_by : IsSeated kw vw key layout
  seated_by = (by.some, λ shape is. shaped_by kw vw 0 layout shape (by.laid shape is))

-- the key that a pass has
pub shape_of : (kw vw : ℕ) (key : Option Shape) (layout : Layout) → IsSeated kw vw key layout → (shape : Shape) × (key ≡ Some shape) × IsShaped kw vw 0 layout shape
shape_of kw vw None layout seated = absurd (seated.0 refl)
shape_of kw vw (Some shape) layout seated = (shape, refl, seated.1 shape refl)

-- the keys of a pass fit
pub pass_fits : (kw vw : ℕ) (key : Option Shape) (layout : Layout) → IsLaidBy (is_sound kw vw) (λ _. 0) (laid_out kw vw) key layout → Fits kw
pass_fits kw vw None layout by = absurd (by.some refl)
pass_fits kw vw (Some shape) layout by = key_fits kw vw shape (by.laid shape refl).sound

-- ---- of a pass, whose layout comes in other words

module _ (kw vw : ℕ) (layout : Layout) (view : MapView) (seated : IsSeated kw vw view.key layout) where
  seat : (shape : Shape) × (view.key ≡ Some shape) × IsShaped kw vw 0 layout shape
  seat = shape_of kw vw view.key layout seated

  -- the words of a bucket are few
  pub few_there : size kw vw ≤ 2 ^ 27
  few_there = few_words kw vw 0 layout seat.0 seat.2

  module _ (layout' buckets : Layout) (same : layout' ≡ layout) (is : buckets ≡ record { ranks = layout'.ranks; per_rank = layout'.per_rank / size kw vw }) where
    pub some_buckets : 1 ≤ segment.places buckets
    some_buckets = let e = places_by kw vw 0 layout seat.0 seat.2 layout' buckets same is in let some : 0 < places seat.0 = some_places kw vw 0 layout seat.0 seat.2 in omega arith

    pub few_buckets : segment.places buckets ≤ 2 ^ 27
    few_buckets = let e = places_by kw vw 0 layout seat.0 seat.2 layout' buckets same is in let few = few_places kw vw 0 layout seat.0 seat.2 in omega arith

    -- the home of a key, as the code computes it
    module _ (k : Words) (found : ℕ) (there : found ≡ start_of kw k (segment.places buckets) / buckets.per_rank) where
      found_home : found ≡ home seat.0 k
      found_home = home_by kw vw 0 layout seat.0 seat.2 k buckets (buckets_by kw vw 0 layout seat.0 seat.2 layout' buckets same is) found there

      pub mine_if : found ≡ view.rank → IsMine view k
      mine_if same = record { shape = seat.0; of = seat.1; own = sym found_home ∙ same }

      pub mine_then : IsMine view k → found ≡ view.rank
      mine_then mine = found_home ∙ (ap (λ (s : Shape). home s k) (some_same seat.0 mine.shape (sym seat.1 ∙ mine.of)) ∙ mine.own)
