use Rattle.std.proofs.Common.{◌≡◌, ℕ, suc, ◌+◌, ◌*◌, ◌-◌, ◌<◌, ◌≤◌, [], ◌∷◌, ◌++◌, length, slice_index, sym, ap, ◌∙◌, subst, arith, length-append, rules, le_trans}
use Rattle.std.specs.Prelude.{true, vec_capacity}
use Rattle.std.proofs.Math.Nat.{mul-le-mul_right}
use Rattle.bcl_segment.specs.declared.layout.Layout.{Layout}
use Rattle.bcl_segment.specs.Places.{IsSpot}
use Rattle.bcl_segment.specs.Places as segment
use Rattle.bcl_phase.specs.Views.{words_of}
use Rattle.bcl_phase.specs.Parts.{home_view, home_id, home_words, home_key, home_layout, home_heads}
use Rattle.bcl_map.specs.Map.{places, size}
use Rattle.bcl_map.specs.Calls.{MapView}
use Rattle.bcl_map.specs.Closed.{object, pair_at, pairs_to, in_words}
use Rattle.bcl_map.proofs.Closes.{unused, taken, part_within, part_long, key_there, value_there, pair_read, few_up_to, more_in_words, as_many_words}
use Rattle.bcl_map.proofs.Looks.{small, spot_is, found_is}
use Rattle.bcl_map.proofs.Walks.{few_all, few_words, places_by, bucket_at}
use Rattle.bcl_map.proofs.pairs.list_pairs.Goals.{then-look-ne0+in_ok-push, else-look-ne0}
use Rattle.bcl_map.proofs.pairs.list_pairs.Goals as goal

pub bucket_at-at-requires-clause-room : goal.bucket_at-at-requires-clause-room
bucket_at-at-requires-clause-room g c κs outlives = let home = c.args.home.now in let kw = g.K.Object.WORDS in let vw = g.V.Object.WORDS in
    let many = places_by kw vw (home_heads home) (home_layout home) (home_key home) c.requires.shape c.layout.result _ c.layout.ensures.layout c.in_buckets-buckets.ensures.buckets in let below = c.loop-place-test.true in
    let all = few_all kw vw (home_heads home) (home_layout home) (home_key home) c.requires.shape in let low : c.loop-place.place * size kw vw ≤ places (home_key home) * size kw vw = mul-le-mul_right (size kw vw) (omega arith) in omega arith

pub bucket_at-at-requires-clause-few : goal.bucket_at-at-requires-clause-few
bucket_at-at-requires-clause-few g c κs outlives = let home = c.args.home.now in few_words g.K.Object.WORDS g.V.Object.WORDS (home_heads home) (home_layout home) (home_key home) c.requires.shape

pub word_of-requires : goal.word_of-requires
word_of-requires g c = record {
  room = let home = c.args.home.now in let kw = g.K.Object.WORDS in let vw = g.V.Object.WORDS in
      let many = places_by kw vw (home_heads home) (home_layout home) (home_key home) c.requires.shape c.layout.result _ c.layout.ensures.layout c.in_buckets-buckets.ensures.buckets in let below = c.loop-place-test.true in
      let few = small kw vw (home_heads home) (home_layout home) (home_key home) c.requires.shape c.bucket_at-at.result c.loop-place.place (bucket_at kw vw (home_heads home) (home_layout home) (home_key home) c.requires.shape c.loop-place.place c.bucket_at-at.result (omega arith) c.bucket_at-at.ensures.at) in omega arith;
}

pub look-requires-clause-spot : goal.look-requires-clause-spot
look-requires-clause-spot g c = let home = c.args.home.now in let kw = g.K.Object.WORDS in let vw = g.V.Object.WORDS in let I = c.loop-place.invariant in
    let many = places_by kw vw (home_heads home) (home_layout home) (home_key home) c.requires.shape c.layout.result _ c.layout.ensures.layout c.in_buckets-buckets.ensures.buckets in let below = c.loop-place-test.true in
    subst (λ (z : ℕ × Layout). IsSpot z.0 z.1 c.word_of.result) (λ i. (sym I.same.3 i, sym I.same.2 i))
    (spot_is kw vw (home_heads home) (home_layout home) (home_key home) c.requires.shape c.bucket_at-at.result c.loop-place.place 0 c.word_of.result (bucket_at kw vw (home_heads home) (home_layout home) (home_key home) c.requires.shape c.loop-place.place c.bucket_at-at.result (omega arith) c.bucket_at-at.ensures.at) c.word_of.ensures.spot (omega arith))

pub read_object-key-requires-clause-within : goal.read_object-key-requires-clause-within
read_object-key-requires-clause-within g c κs outlives = let home = c.args.home.now in let kw = g.K.Object.WORDS in let vw = g.V.Object.WORDS in let I = c.loop-place.invariant in let L = home_key home in let ws = home_words home in let n = c.loop-place.place in
    let many = places_by kw vw (home_heads home) (home_layout home) L c.requires.shape c.layout.result _ c.layout.ensures.layout c.in_buckets-buckets.ensures.buckets in let below = c.loop-place-test.true in
    let bucket = bucket_at kw vw (home_heads home) (home_layout home) L c.requires.shape c.loop-place.place c.bucket_at-at.result (omega arith) c.bucket_at-at.ensures.at in
    let view : home_view c.look.new.self ≡ home_view home = c.look.ensures.view ∙ I.view in let layout : home_layout c.look.new.self ≡ home_layout home = c.look.ensures.same.2 ∙ I.same.2 in
    subst (λ (z : Layout). c.bucket_at-at.result + (1 + kw) ≤ segment.places z) (sym layout)
    (part_within kw vw g.K.Object.passes g.V.Object.passes (home_layout home) L 0 ws _ c.requires.fit c.requires.key.most c.requires.value.most c.bucket_at-at.result n bucket (omega arith) 1 kw (omega arith))

pub read_object-key-requires-clause-long : goal.read_object-key-requires-clause-long
read_object-key-requires-clause-long g c κs outlives = let home = c.args.home.now in let kw = g.K.Object.WORDS in let vw = g.V.Object.WORDS in let I = c.loop-place.invariant in let L = home_key home in let ws = home_words home in let n = c.loop-place.place in
    let many = places_by kw vw (home_heads home) (home_layout home) L c.requires.shape c.layout.result _ c.layout.ensures.layout c.in_buckets-buckets.ensures.buckets in let below = c.loop-place-test.true in
    let bucket = bucket_at kw vw (home_heads home) (home_layout home) L c.requires.shape c.loop-place.place c.bucket_at-at.result (omega arith) c.bucket_at-at.ensures.at in
    let view : home_view c.look.new.self ≡ home_view home = c.look.ensures.view ∙ I.view in let layout : home_layout c.look.new.self ≡ home_layout home = c.look.ensures.same.2 ∙ I.same.2 in
    subst (λ (z : MapView × Layout). c.bucket_at-at.result + (1 + kw) ≤ length (words_of z.0)) (λ i. (sym view i, sym layout i))
    (part_long kw vw g.K.Object.passes g.V.Object.passes (home_layout home) L 0 ws _ c.requires.fit c.requires.key.most c.requires.value.most c.bucket_at-at.result n bucket (omega arith) 1 kw (omega arith))

pub read_object-key-requires-clause-passes : goal.read_object-key-requires-clause-passes
read_object-key-requires-clause-passes g c κs outlives = let home = c.args.home.now in let kw = g.K.Object.WORDS in let vw = g.V.Object.WORDS in let I = c.loop-place.invariant in let L = home_key home in let ws = home_words home in let n = c.loop-place.place in
    let many = places_by kw vw (home_heads home) (home_layout home) L c.requires.shape c.layout.result _ c.layout.ensures.layout c.in_buckets-buckets.ensures.buckets in let below = c.loop-place-test.true in
    let bucket = bucket_at kw vw (home_heads home) (home_layout home) L c.requires.shape c.loop-place.place c.bucket_at-at.result (omega arith) c.bucket_at-at.ensures.at in
    let found : c.look.result ≡ slice_index ws (size kw vw * n + 0) = found_is kw vw (home_heads home) (home_layout home) L c.requires.shape c.bucket_at-at.result n 0 c.word_of.result bucket c.word_of.ensures.spot
    (home_view home) (home_view c.loop-place.home) (home_heads c.loop-place.home) (home_layout c.loop-place.home) c.look.result I.view I.same.3 I.same.2 c.look.ensures.value in
    let view : home_view c.look.new.self ≡ home_view home = c.look.ensures.view ∙ I.view in let layout : home_layout c.look.new.self ≡ home_layout home = c.look.ensures.same.2 ∙ I.same.2 in
    subst (λ (z : MapView × Layout). g.K.Object.passes (object kw (words_of z.0) (c.bucket_at-at.result + 1)) ≡ true) (λ i. (sym view i, sym layout i))
    (key_there kw vw g.K.Object.passes g.V.Object.passes (home_layout home) L 0 ws _ c.requires.fit c.requires.key.most c.requires.value.most c.bucket_at-at.result n bucket (omega arith) (λ e. c.if-look-ne0.true (found ∙ e)))

pub read_object-value-requires-clause-within : goal.read_object-value-requires-clause-within
read_object-value-requires-clause-within g c κs outlives = let home = c.args.home.now in let kw = g.K.Object.WORDS in let vw = g.V.Object.WORDS in let I = c.loop-place.invariant in let L = home_key home in let ws = home_words home in let n = c.loop-place.place in
    let many = places_by kw vw (home_heads home) (home_layout home) L c.requires.shape c.layout.result _ c.layout.ensures.layout c.in_buckets-buckets.ensures.buckets in let below = c.loop-place-test.true in
    let bucket = bucket_at kw vw (home_heads home) (home_layout home) L c.requires.shape c.loop-place.place c.bucket_at-at.result (omega arith) c.bucket_at-at.ensures.at in
    let view : home_view c.read_object-key.new.home ≡ home_view home = c.read_object-key.ensures.view ∙ (c.look.ensures.view ∙ I.view) in let layout : home_layout c.read_object-key.new.home ≡ home_layout home = c.read_object-key.ensures.same.2 ∙ (c.look.ensures.same.2 ∙ I.same.2) in let wide = c.WORDS.ensures in
    subst (λ (z : Layout). c.bucket_at-at.result + ((1 + c.WORDS.result) + vw) ≤ segment.places z) (sym layout)
    (part_within kw vw g.K.Object.passes g.V.Object.passes (home_layout home) L 0 ws _ c.requires.fit c.requires.key.most c.requires.value.most c.bucket_at-at.result n bucket (omega arith) (1 + c.WORDS.result) vw (omega arith))

pub read_object-value-requires-clause-long : goal.read_object-value-requires-clause-long
read_object-value-requires-clause-long g c κs outlives = let home = c.args.home.now in let kw = g.K.Object.WORDS in let vw = g.V.Object.WORDS in let I = c.loop-place.invariant in let L = home_key home in let ws = home_words home in let n = c.loop-place.place in
    let many = places_by kw vw (home_heads home) (home_layout home) L c.requires.shape c.layout.result _ c.layout.ensures.layout c.in_buckets-buckets.ensures.buckets in let below = c.loop-place-test.true in
    let bucket = bucket_at kw vw (home_heads home) (home_layout home) L c.requires.shape c.loop-place.place c.bucket_at-at.result (omega arith) c.bucket_at-at.ensures.at in
    let view : home_view c.read_object-key.new.home ≡ home_view home = c.read_object-key.ensures.view ∙ (c.look.ensures.view ∙ I.view) in let layout : home_layout c.read_object-key.new.home ≡ home_layout home = c.read_object-key.ensures.same.2 ∙ (c.look.ensures.same.2 ∙ I.same.2) in let wide = c.WORDS.ensures in
    subst (λ (z : MapView × Layout). c.bucket_at-at.result + ((1 + c.WORDS.result) + vw) ≤ length (words_of z.0)) (λ i. (sym view i, sym layout i))
    (part_long kw vw g.K.Object.passes g.V.Object.passes (home_layout home) L 0 ws _ c.requires.fit c.requires.key.most c.requires.value.most c.bucket_at-at.result n bucket (omega arith) (1 + c.WORDS.result) vw (omega arith))

pub read_object-value-requires-clause-passes : goal.read_object-value-requires-clause-passes
read_object-value-requires-clause-passes g c κs outlives = let home = c.args.home.now in let kw = g.K.Object.WORDS in let vw = g.V.Object.WORDS in let I = c.loop-place.invariant in let L = home_key home in let ws = home_words home in let n = c.loop-place.place in
    let many = places_by kw vw (home_heads home) (home_layout home) L c.requires.shape c.layout.result _ c.layout.ensures.layout c.in_buckets-buckets.ensures.buckets in let below = c.loop-place-test.true in
    let bucket = bucket_at kw vw (home_heads home) (home_layout home) L c.requires.shape c.loop-place.place c.bucket_at-at.result (omega arith) c.bucket_at-at.ensures.at in
    let found : c.look.result ≡ slice_index ws (size kw vw * n + 0) = found_is kw vw (home_heads home) (home_layout home) L c.requires.shape c.bucket_at-at.result n 0 c.word_of.result bucket c.word_of.ensures.spot
    (home_view home) (home_view c.loop-place.home) (home_heads c.loop-place.home) (home_layout c.loop-place.home) c.look.result I.view I.same.3 I.same.2 c.look.ensures.value in
    let view : home_view c.read_object-key.new.home ≡ home_view home = c.read_object-key.ensures.view ∙ (c.look.ensures.view ∙ I.view) in let layout : home_layout c.read_object-key.new.home ≡ home_layout home = c.read_object-key.ensures.same.2 ∙ (c.look.ensures.same.2 ∙ I.same.2) in
    subst (λ (z : MapView × Layout). g.V.Object.passes (object vw (words_of z.0) (c.bucket_at-at.result + (1 + c.WORDS.result))) ≡ true) (λ i. (sym view i, sym layout i))
    (value_there kw vw g.K.Object.passes g.V.Object.passes (home_layout home) L 0 ws _ c.requires.fit c.requires.key.most c.requires.value.most c.bucket_at-at.result n bucket (omega arith) c.WORDS.result c.WORDS.ensures (λ e. c.if-look-ne0.true (found ∙ e)))

pub loop-place-preserved : goal.loop-place-preserved
loop-place-preserved g c = let home = c.args.home.now in let kw = g.K.Object.WORDS in let vw = g.V.Object.WORDS in let I = c.loop-place.invariant in let L = home_key home in let ws = home_words home in let n = c.loop-place.place in
    let many = places_by kw vw (home_heads home) (home_layout home) L c.requires.shape c.layout.result _ c.layout.ensures.layout c.in_buckets-buckets.ensures.buckets in let below = c.loop-place-test.true in
    let bucket = bucket_at kw vw (home_heads home) (home_layout home) L c.requires.shape c.loop-place.place c.bucket_at-at.result (omega arith) c.bucket_at-at.ensures.at in
    let found : c.look.result ≡ slice_index ws (size kw vw * n + 0) = found_is kw vw (home_heads home) (home_layout home) L c.requires.shape c.bucket_at-at.result n 0 c.word_of.result bucket c.word_of.ensures.spot
    (home_view home) (home_view c.loop-place.home) (home_heads c.loop-place.home) (home_layout c.loop-place.home) c.look.result I.view I.same.3 I.same.2 c.look.ensures.value in
    let same = c.look.ensures.same in let next : n + 1 ≡ suc n = omega arith in
    elim c.if-look-ne0.branch [
      | then-look-ne0+in_ok-push w ↦
          let a = w.read_object-key.ensures in let b = w.read_object-value.ensures in
          let view : home_view w.read_object-value.new.home ≡ home_view home = b.view ∙ (a.view ∙ (c.look.ensures.view ∙ I.view)) in
          let key : g.K.Object.words w.read_object-key.result ≡ object kw ws (c.bucket_at-at.result + 1) =
          a.words ∙ (λ i. object kw (words_of ((c.look.ensures.view ∙ I.view) i)) (c.bucket_at-at.result + 1)) in
          let value : g.V.Object.words w.read_object-value.result ≡ object vw ws (c.bucket_at-at.result + (1 + w.WORDS.result)) =
          b.words ∙ (λ i. object vw (words_of ((a.view ∙ (c.look.ensures.view ∙ I.view)) i)) (c.bucket_at-at.result + (1 + w.WORDS.result))) in
          let pair : (g.K.Object.words w.read_object-key.result, g.V.Object.words w.read_object-value.result) ≡ pair_at kw vw ws n =
          pair_read kw vw g.K.Object.passes g.V.Object.passes (home_layout home) L 0 ws _ c.requires.fit c.requires.key.most c.requires.value.most c.bucket_at-at.result n bucket (omega arith) w.WORDS.result w.WORDS.ensures _ _ key value in
          let pairs : in_words g.K.Object.words g.V.Object.words w.push.new.self.items ≡ pairs_to kw vw ws (suc n) =
          ap (in_words g.K.Object.words g.V.Object.words) w.in_ok-push.ensures.items ∙ (more_in_words g.K.Object.words g.V.Object.words c.loop-place.pairs.items (w.read_object-key.result, w.read_object-value.result)
          ∙ ((λ i. I.pairs i ++ pair i ∷ []) ∙ sym (taken kw vw ws n (λ e. w.if-look-ne0.true (found ∙ e))))) in record {
            view = ap home_view w.home-is ∙ view;
            same = (ap home_id w.home-is ∙ (b.same.0 ∙ (a.same.0 ∙ (same.0 ∙ I.same.0))), ap home_key w.home-is ∙ (b.same.1 ∙ (a.same.1 ∙ (same.1 ∙ I.same.1))), ap home_layout w.home-is ∙ (b.same.2 ∙ (a.same.2 ∙ (same.2 ∙ I.same.2))), ap home_heads w.home-is ∙ (b.same.3 ∙ (a.same.3 ∙ (same.3 ∙ I.same.3))));
            pairs = ap (λ (v : _). in_words g.K.Object.words g.V.Object.words v.items) w.pairs-is ∙ (pairs ∙ ap (pairs_to kw vw ws) (sym next));
          }
      | else-look-ne0 w ↦ record {
        view = ap home_view w.home-is ∙ (c.look.ensures.view ∙ I.view);
        same = (ap home_id w.home-is ∙ (same.0 ∙ I.same.0), ap home_key w.home-is ∙ (same.1 ∙ I.same.1), ap home_layout w.home-is ∙ (same.2 ∙ I.same.2), ap home_heads w.home-is ∙ (same.3 ∙ I.same.3));
        pairs = ap (λ (v : _). in_words g.K.Object.words g.V.Object.words v.items) w.pairs-is ∙ (I.pairs ∙ (sym (unused kw vw ws n (sym found ∙ w.if-look-ne0.false)) ∙ ap (pairs_to kw vw ws) (sym next)));
      }
    ]

pub returns-clause-pairs : goal.returns-clause-pairs
returns-clause-pairs g c = let home = c.args.home.now in let kw = g.K.Object.WORDS in let vw = g.V.Object.WORDS in
    let many = places_by kw vw (home_heads home) (home_layout home) (home_key home) c.requires.shape c.layout.result _ c.layout.ensures.layout c.in_buckets-buckets.ensures.buckets in
    let end = c.loop-place-test.false in let within = c.loop-place.auto.place-end in let same : c.loop-place.place ≡ places (home_key home) = omega arith in
    c.loop-place.invariant.pairs ∙ ap (pairs_to kw vw (home_words home)) same
