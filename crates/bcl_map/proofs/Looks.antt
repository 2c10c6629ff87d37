-- Where the words of a bucket stand, and a get of a word of a value, as the code of a find takes it.
use Rattle.std.proofs.Common.{◌≡◌, ℕ, ◌+◌, ◌*◌, ◌^◌, ◌<◌, ◌≤◌, List, slice_index, sym, ap, ◌∙◌, subst, arith}
use Rattle.std.specs.Prelude.{Bool}
use Rattle.std.proofs.Math.Nat.{mul-pos}
use Rattle.bcl_segment.specs.declared.layout.Layout.{Layout}
use Rattle.bcl_segment.specs.declared.layout.Spot.{Spot}
use Rattle.bcl_segment.specs.declared.layout.Spot.TheVariants.{Head}
use Rattle.bcl_segment.specs.Places.{IsSpot, word_at}
use Rattle.bcl_phase.specs.Views.{words_of}
use Rattle.bcl_phase.specs.Rule.{Moves}
use Rattle.bcl_map.specs.declared.shape.Shape.{Shape}
use Rattle.bcl_map.specs.Map.{Words, Lawful, path, next, permits, size, IsShaped}
use Rattle.bcl_map.specs.Notes.{Note}
use Rattle.bcl_map.specs.Fits.{Holds}
use Rattle.bcl_map.specs.Finds.{MaySee, Typed, reading, value_of, FindsValue}
use Rattle.bcl_map.specs.Calls.{MapView, IsBucketAt}
use Rattle.bcl_map.proofs.Finds.{finds_value, typed_step}

-- ---- where the words of a bucket stand

module _ (kw vw heads : ℕ) (layout : Layout) (L : Shape) (shaped : IsShaped kw vw heads layout L) where
  pub lawful : Lawful L
  lawful = record {
    some_place = mul-pos (let h = shaped.some_ranks in omega arith) (let h = shaped.some in omega arith);
    few_ranks = shaped.few_ranks;
  }

  pub small : (at place : ℕ) → IsBucketAt (size kw vw) layout at place → at + size kw vw ≤ 2 ^ 27
  small at place bucket = let room = bucket.room in let few = shaped.few in omega arith

  module _ (at place j : ℕ) (spot : Spot) (bucket : IsBucketAt (size kw vw) layout at place) (is : spot ≡ Head (at + j)) where
    pub word_is : word_at heads layout spot ≡ size kw vw * place + j
    word_is = ap (word_at heads layout) is ∙ ap (λ (n : ℕ). n + j) bucket.first

    pub spot_is : j < size kw vw → IsSpot heads layout spot
    spot_is low = let room = bucket.room in subst (IsSpot heads layout) (sym is) (omega arith)

    -- what is found there by whoever knows the words
    pub found_is : (v v' : MapView) (heads' : ℕ) (layout' : Layout) (n : ℕ) → v' ≡ v → heads' ≡ heads → layout' ≡ layout → n ≡ slice_index (words_of v') (word_at heads' layout' spot) → n ≡ slice_index (words_of v) (size kw vw * place + j)
    found_is v v' heads' layout' n same same_heads same_layout found = found ∙ ((λ i. slice_index (words_of (same i)) (word_at (same_heads i) (same_layout i) spot)) ∙ ap (slice_index (words_of v)) word_is)

-- ---- a get of a word of the value

module _ (kw vw : ℕ) (key value : List ℕ → Bool) (op : Words → Words → Words) (L : Shape) (law : Lawful L) (p r : ℕ) (k : Words) (d : ℕ) (see : MaySee L p r k) where
  pub value_step : (j w : ℕ) (x : Note) → kw ≤ 8 → j < vw → x.claims ≡ reading k d (value_of x.claims) → w ≡ size kw vw * path L k d + (1 + (kw + j))
      → Moves (next op) permits (Holds kw vw key value) L p r x w (λ n. n) (Typed key value (FindsValue kw vw op L k d (value_of x.claims) j x))
  value_step j w x room low at is = subst (λ (z : ℕ). Moves (next op) permits (Holds kw vw key value) L p r x z (λ n. n) (Typed key value (FindsValue kw vw op L k d (value_of x.claims) j x))) (sym is)
      (typed_step kw vw key value op L p r x _ (FindsValue kw vw op L k d (value_of x.claims) j x) (λ n t did y told. told.still) (finds_value kw vw op L law p r k d see (value_of x.claims) j x room low at))
