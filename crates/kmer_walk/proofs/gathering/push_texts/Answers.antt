use Rattle.std.proofs.Common.{◌≡◌, ◌∙◌, ℕ, ◌+◌, ◌-◌, ◌<◌, List, [], ◌∷◌, ◌++◌, length, map, take, drop, get_or, refl, sym, ap, append-nil, append_assoc, arith}
use Rattle.std.proofs.lemmas.List.{map-append, take_more, take_all}
use Rattle.kmer_walk.proofs.Pieces.{begins, as_many, ends_at, rises, ends_within, piece}
use Rattle.kmer_walk.proofs.gathering.push_texts.Goals as goal

pub loop-i-init : goal.loop-i-init
loop-i-init c = λ own are. (sym (append-nil (map (λ text. text.items) c.args.texts.now.items)), refl)

pub slice_bounds-from_slice-count : goal.slice_bounds-from_slice-count
slice_bounds-from_slice-count c =
    let part = c.args.part.now in
    let own = c.requires.lie.0 in let are = c.requires.lie.1 in
    let low : c.loop-i.i < length part.ends.items = omega (arith, c.len-i-end.ensures) in
    let up = rises own part.bytes.items part.ends.items are c.loop-i.i low in
    omega (arith, (c.loop-i.invariant own are).1, c.index-end.ensures, ends_at own part.bytes.items part.ends.items are c.loop-i.i low c.index-end.result.now)

pub slice_bounds-from_slice-start : goal.slice_bounds-from_slice-start
slice_bounds-from_slice-start c =
    let part = c.args.part.now in
    let own = c.requires.lie.0 in let are = c.requires.lie.1 in
    let low : c.loop-i.i < length part.ends.items = omega (arith, c.len-i-end.ensures) in
    let up = rises own part.bytes.items part.ends.items are c.loop-i.i low in
    omega (arith, (c.loop-i.invariant own are).1, c.index-end.ensures, ends_at own part.bytes.items part.ends.items are c.loop-i.i low c.index-end.result.now)

pub slice_bounds-from_slice-end : goal.slice_bounds-from_slice-end
slice_bounds-from_slice-end c =
    let part = c.args.part.now in
    let own = c.requires.lie.0 in let are = c.requires.lie.1 in
    let low : c.loop-i.i < length part.ends.items = omega (arith, c.len-i-end.ensures) in
    let up = rises own part.bytes.items part.ends.items are c.loop-i.i low in
    let within = ends_within own part.bytes.items part.ends.items are c.loop-i.i low in
    omega (arith, (c.loop-i.invariant own are).1, c.index-end.ensures, ends_at own part.bytes.items part.ends.items are c.loop-i.i low c.index-end.result.now, c.deref.ensures.len)

pub loop-i-preserved : goal.loop-i-preserved
loop-i-preserved c = λ own are.
    let part = c.args.part.now in
    let i = c.loop-i.i in
    let old = map (λ text. text.items) c.args.texts.now.items in
    let before = c.loop-i.invariant own are in
    let low : i < length part.ends.items = omega (arith, c.len-i-end.ensures) in
    let many = as_many own part.bytes.items part.ends.items are in
    let end : c.index-end.result.now ≡ begins own (i + 1) = c.index-end.ensures ∙ ends_at own part.bytes.items part.ends.items are i low c.index-end.result.now in
    let text : c.in_ok-from_slice.field-0.items ≡ get_or own i [] =
    c.in_ok-from_slice.ensures.items
    ∙ ((λ j. take (end j - before.1 j) (drop (before.1 j) (c.deref.ensures.value j))) ∙ piece own part.bytes.items part.ends.items are i low) in (
      ap (map (λ text. text.items)) c.in_ok-push.ensures.items
          ∙ (map-append (λ text. text.items) c.loop-i.texts.items (c.in_ok-from_slice.field-0 ∷ [])
          ∙ ((λ j. before.0 j ++ text j ∷ [])
          ∙ (append_assoc old (take i own) (get_or own i [] ∷ []) ∙ ap (λ (l : List (List ℕ)). old ++ l) (sym (take_more own i [] (omega arith)))))),
      end,
    )

pub returns : goal.returns
returns c = record {
  put = λ own are.
      let many = as_many own c.args.part.now.bytes.items c.args.part.now.ends.items are in
      (c.loop-i.invariant own are).0 ∙ ap (λ (l : List (List ℕ)). map (λ text. text.items) c.args.texts.now.items ++ l) (take_all c.loop-i.i own (omega (arith, c.len-i-end.ensures, c.loop-i-test.false)));
}
