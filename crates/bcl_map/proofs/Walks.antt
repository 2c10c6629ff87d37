-- The walk along a path, from bucket to bucket.
use Rattle.std.proofs.Common.{◌≡◌, ℕ, suc, ◌^◌, ◌+◌, ◌*◌, ◌/◌, ◌%◌, ◌<◌, ◌≤◌, refl, sym, ap, ◌∙◌, subst, ⊎_elim, arith, mod-lt}
use Rattle.std.specs.Prelude.{Bool, true, false, nat_lt, if◌then◌else◌}
use Rattle.std.proofs.lemmas.Bool.{cases_lt, false≢true}
use Rattle.std.proofs.lemmas.Bool.Decides.{Decides-ltb}
use Rattle.std.proofs.Math.Nat.{mul_assoc, mul_comm, mul-le-mul_right, le-mul_of_pos_right, mod-eq_of_lt, mod_self, mod-add-mod, mul-div_cancel, mul-pos}
use Rattle.bcl_segment.specs.declared.layout.Layout.{Layout}
use Rattle.bcl_segment.specs.Places as segment
use Rattle.bcl_map.specs.declared.shape.Shape.{Shape}
use Rattle.bcl_map.specs.Map.{Words, places, begins_at, home, path, size, IsShaped}
use Rattle.bcl_bucket.specs.Paths.{start_of}
use Rattle.bcl_map.specs.Calls.{IsBucketAt, after}

-- the buckets of a map
module _ (kw vw heads : ℕ) (layout : Layout) (L : Shape) (shaped : IsShaped kw vw heads layout L) where
  some_words : 1 ≤ size kw vw
  some_words = omega arith

  pub some_places : 0 < places L
  some_places = mul-pos (let h = shaped.some_ranks in omega arith) (let h = shaped.some in omega arith)

  -- so few words are there, and so few places
  pub few_all : places L * size kw vw ≤ 2 ^ 27
  few_all = let few = shaped.few in
      let all : layout.ranks * layout.per_rank ≡ places L * size kw vw = (λ i. shaped.of_ranks i * shaped.of_buckets i) ∙ sym (mul_assoc L.ranks L.per_rank (size kw vw)) in omega arith

  pub few_words : size kw vw ≤ 2 ^ 27
  few_words = let all = few_all in let some : 1 ≤ places L = some_places in
      let more : 1 * size kw vw ≤ places L * size kw vw = mul-le-mul_right (size kw vw) some in let one : 1 * size kw vw ≡ size kw vw = omega arith in omega arith

  pub few_places : places L ≤ 2 ^ 27
  few_places = let all = few_all in let more : places L ≤ places L * size kw vw = le-mul_of_pos_right (places L) (omega arith) in omega arith

  -- the layout in buckets, as the code computes it
  module _ (layout' buckets : Layout) (same : layout' ≡ layout) (is : buckets ≡ record { ranks = layout'.ranks; per_rank = layout'.per_rank / size kw vw }) where
    pub buckets_by : buckets ≡ record { ranks = L.ranks; per_rank = L.per_rank }
    buckets_by = is ∙ (λ i. record { ranks = (ap (λ (l : Layout). l.ranks) same ∙ shaped.of_ranks) i; per_rank = (ap (λ (l : Layout). l.per_rank / size kw vw) same ∙ per_rank_is) i })
      where
        per_rank_is : layout.per_rank / size kw vw ≡ L.per_rank
        per_rank_is = ap (λ (n : ℕ). n / size kw vw) shaped.of_buckets ∙ mul-div_cancel L.per_rank some_words

    pub places_by : segment.places buckets ≡ places L
    places_by = ap segment.places buckets_by

  -- so many words there are, in words and in buckets
  pub all_words : segment.places layout ≡ places L * size kw vw
  all_words = (λ i. shaped.of_ranks i * shaped.of_buckets i) ∙ sym (mul_assoc L.ranks L.per_rank (size kw vw))

  -- the bucket at a place
  pub bucket_at : (place at : ℕ) → place < places L → at ≡ place * size kw vw → IsBucketAt (size kw vw) layout at place
  bucket_at place at low is = record {
    first = is ∙ mul_comm place (size kw vw);
    room = let whole = all_words in let upto : (place + 1) * size kw vw ≤ places L * size kw vw = mul-le-mul_right (size kw vw) (omega arith) in let one : (place + 1) * size kw vw ≡ place * size kw vw + size kw vw = omega arith in omega arith;
  }

  -- and the one after it
  module _ (at place : ℕ) (bucket : IsBucketAt (size kw vw) layout at place) (low : place < places L) where
    next_by : (b : Bool) → nat_lt (at + size kw vw) (segment.places layout) ≡ b → IsBucketAt (size kw vw) layout (if b then at + size kw vw else 0) ((place + 1) % places L)
    next_by true e =
        let below : at + size kw vw < segment.places layout = (Decides-ltb _ _).0 e in
        let first : at ≡ place * size kw vw = bucket.first ∙ mul_comm (size kw vw) place in
        let one : (place + 1) * size kw vw ≡ place * size kw vw + size kw vw = omega arith in let whole = all_words in
        let less : place + 1 < places L = ⊎_elim (λ (l : place + 1 < places L). l) (λ (l : places L ≤ place + 1). let over : places L * size kw vw ≤ (place + 1) * size kw vw = mul-le-mul_right (size kw vw) l in absurd (omega arith)) (cases_lt (place + 1) (places L)) in
        subst (IsBucketAt (size kw vw) layout (at + size kw vw)) (sym (mod-eq_of_lt less)) (bucket_at (place + 1) (at + size kw vw) less (omega arith))
    next_by false e =
        let first : at ≡ place * size kw vw = bucket.first ∙ mul_comm (size kw vw) place in
        let one : (place + 1) * size kw vw ≡ place * size kw vw + size kw vw = omega arith in let whole = all_words in
        let last : place + 1 ≡ places L = ⊎_elim
        (λ (l : place + 1 < places L). let under : (place + 1 + 1) * size kw vw ≤ places L * size kw vw = mul-le-mul_right (size kw vw) (omega arith) in let two : (place + 1 + 1) * size kw vw ≡ (place + 1) * size kw vw + size kw vw = omega arith in
        absurd (false≢true (sym e ∙ (Decides-ltb _ _).1 (omega arith))))
        (λ (l : places L ≤ place + 1). omega arith) (cases_lt (place + 1) (places L)) in
        let some : 0 < places L = some_places in
        subst (IsBucketAt (size kw vw) layout 0) (sym (ap (λ (n : ℕ). n % places L) last ∙ mod_self (places L))) (bucket_at 0 0 some (let none : 0 * size kw vw ≡ 0 = omega arith in sym none))

    pub next_at : IsBucketAt (size kw vw) layout (after at (segment.places layout) (size kw vw)) ((place + 1) % places L)
    next_at = next_by (nat_lt (at + size kw vw) (segment.places layout)) refl

-- along the path of a key
module _ (kw vw heads : ℕ) (layout : Layout) (L : Shape) (shaped : IsShaped kw vw heads layout L) (k : Words) where
  pub begins_low : begins_at L k < places L
  begins_low = mod-lt _ (some_places kw vw heads layout L shaped)

  pub along : (d at : ℕ) → IsBucketAt (size kw vw) layout at (path L k d) → IsBucketAt (size kw vw) layout (after at (segment.places layout) (size kw vw)) (path L k (suc d))
  along d at bucket = subst (IsBucketAt (size kw vw) layout (after at (segment.places layout) (size kw vw))) on (next_at kw vw heads layout L shaped at (path L k d) bucket (mod-lt _ (some_places kw vw heads layout L shaped)))
    where
      on : (path L k d + 1) % places L ≡ path L k (suc d)
      on = mod-add-mod (begins_at L k + d) (places L) 1 ∙ ap (λ (n : ℕ). n % places L) (let s : begins_at L k + d + 1 ≡ begins_at L k + suc d = omega arith in s)

  -- the bucket where it begins
  pub first_at : (at : ℕ) → at ≡ begins_at L k * size kw vw → IsBucketAt (size kw vw) layout at (path L k 0)
  first_at at is = subst (IsBucketAt (size kw vw) layout at) cut (bucket_at kw vw heads layout L shaped (begins_at L k) at begins_low is)
    where
      cut : begins_at L k ≡ (begins_at L k + 0) % places L
      cut = let s : begins_at L k ≡ begins_at L k + 0 = omega arith in s ∙ sym (mod-eq_of_lt (let l : begins_at L k < places L = begins_low in omega arith))

  -- where the path begins, as the code computes it
  module _ (buckets : Layout) (is : buckets ≡ record { ranks = L.ranks; per_rank = L.per_rank }) where
    pub begins_by : start_of kw k (segment.places buckets) ≡ begins_at L k
    begins_by i = start_of (sym shaped.wide i) k (segment.places (is i))

    pub home_by : (found : ℕ) → found ≡ start_of kw k (segment.places buckets) / buckets.per_rank → found ≡ home L k
    home_by found e = e ∙ (λ i. begins_by i / (is i).per_rank)
