-- Where the items of a rank's block stand.
use Rattle.std.proofs.Common.{◌≡◌, ℕ, ◌+◌, ◌*◌, ◌-◌, ◌/◌, ◌^◌, ◌<◌, ◌≤◌, sym, ap, ◌∙◌, subst, arith, Some}
use Rattle.std.proofs.Math.Nat.{mul_assoc, add-mul, mul-le-mul_left, mul-le-mul_right, le-mul_of_pos_right, mul-div_cancel, div-mul-le_self, lt-mul-div-succ, div-eq_of_lt-le}
use Rattle.bcl_segment.specs.declared.layout.Layout.{Layout}
use Rattle.bcl_segment.specs.Places.{places}
use Rattle.bcl_darray.specs.declared.array.Shape.{Shape}
use Rattle.bcl_darray.specs.Array.{size, IsShaped}
use Rattle.bcl_darray.specs.Calls.{ItemView, IsMine, IsSeated, IsItemAt}
use Rattle.bcl_darray.proofs.Seated.{shape_of}

module _ (width heads : ℕ) (layout : Layout) (shape : Shape) (shaped : IsShaped width heads layout shape) (some : 1 ≤ width) where
  -- how many items a rank has
  pub items_is : layout.per_rank / width ≡ shape.per_rank
  items_is = ap (λ (n : ℕ). n / width) shaped.of_items ∙ mul-div_cancel shape.per_rank some

  -- the words before the block of a rank
  before : (rank : ℕ) → rank * layout.per_rank ≡ rank * shape.per_rank * width
  before rank = ap (λ (n : ℕ). rank * n) shaped.of_items ∙ sym (mul_assoc rank shape.per_rank width)

  -- what it is to lie in the block of a rank
  pub in_block : (index rank : ℕ) → index / shape.per_rank ≡ rank → (rank * shape.per_rank ≤ index) × (index < rank * shape.per_rank + shape.per_rank)
  in_block index rank is =
      let low : index / shape.per_rank * shape.per_rank ≤ index = div-mul-le_self index shape.per_rank in
      let high : index < shape.per_rank * (index / shape.per_rank + 1) = lt-mul-div-succ index shaped.some in
      let turned : shape.per_rank * (index / shape.per_rank + 1) ≡ index / shape.per_rank * shape.per_rank + shape.per_rank = omega arith in
      let same : index / shape.per_rank * shape.per_rank ≡ rank * shape.per_rank = ap (λ (n : ℕ). n * shape.per_rank) is in
      (omega arith, omega arith)

  pub block_of : (index rank : ℕ) → rank * shape.per_rank ≤ index → index < rank * shape.per_rank + shape.per_rank → index / shape.per_rank ≡ rank
  block_of index rank low high = div-eq_of_lt-le shape.per_rank low (let turned : (rank + 1) * shape.per_rank ≡ rank * shape.per_rank + shape.per_rank = omega arith in omega arith)

  -- the words of an item that lies in the block of a rank
  pub in_words : (index rank : ℕ) → rank < layout.ranks → index / shape.per_rank ≡ rank
      → (rank * layout.per_rank ≤ index * width) × (index * width < rank * layout.per_rank + layout.per_rank) × (rank * layout.per_rank + layout.per_rank ≤ places layout) × (index < size shape)
  in_words index rank of_rank is =
      let block = in_block index rank is in let q : ℕ = rank * shape.per_rank in
      let base : rank * layout.per_rank ≡ q * width = before rank in
      let whole : layout.per_rank ≡ shape.per_rank * width = shaped.of_items in
      let low : q * width ≤ index * width = mul-le-mul_right width block.0 in
      let next : (index + 1) * width ≤ (q + shape.per_rank) * width = mul-le-mul_right width (let b : index < q + shape.per_rank = block.1 in omega arith) in
      let one : (index + 1) * width ≡ index * width + width = omega arith in
      let parts : (q + shape.per_rank) * width ≡ q * width + shape.per_rank * width = add-mul q shape.per_rank width in
      let all : (rank + 1) * layout.per_rank ≤ layout.ranks * layout.per_rank = mul-le-mul_right layout.per_rank (omega arith) in
      let more : (rank + 1) * layout.per_rank ≡ rank * layout.per_rank + layout.per_rank = omega arith in
      let ranks = shaped.of_ranks in
      let items : (rank + 1) * shape.per_rank ≤ shape.ranks * shape.per_rank = mul-le-mul_right shape.per_rank (omega arith) in
      let items_more : (rank + 1) * shape.per_rank ≡ q + shape.per_rank = omega arith in
      let below : index < q + shape.per_rank = block.1 in
      (omega arith, omega arith, omega arith, omega arith)

  -- the words of an item that is there
  pub words_there : (index : ℕ) → index < size shape → index * width < places layout
  words_there index within =
      let next : (index + 1) * width ≤ shape.ranks * shape.per_rank * width = mul-le-mul_right width (omega arith) in
      let one : (index + 1) * width ≡ index * width + width = omega arith in
      let all : layout.ranks * layout.per_rank ≡ shape.ranks * shape.per_rank * width = ap (λ (n : ℕ). n * layout.per_rank) shaped.of_ranks ∙ before shape.ranks in
      omega arith

  pub item_stands : (at index : ℕ) → index < size shape → at ≡ index * width → IsItemAt width layout at index
  item_stands at index within first = record {
    first = first;
    room =
        let next : (index + 1) * width ≤ shape.ranks * shape.per_rank * width = mul-le-mul_right width (omega arith) in
        let one : (index + 1) * width ≡ index * width + width = omega arith in
        let all : layout.ranks * layout.per_rank ≡ shape.ranks * shape.per_rank * width = ap (λ (n : ℕ). n * layout.per_rank) shaped.of_ranks ∙ before shape.ranks in
        omega arith;
  }

-- ---- of a pass, whose layout and width come in other words

module _ (width width' : ℕ) (layout layout' : Layout) (view : ItemView) (index rank : ℕ) (seated : IsSeated width view.key layout) (wide : width' ≡ width) (laid : layout' ≡ layout) (ranked : rank ≡ view.rank) (within : rank < layout.ranks) (some : 1 ≤ width) where
  module _ (mine : IsMine view index) where
    shaped : IsShaped width' 0 layout' mine.shape
    shaped = subst (λ (z : ℕ × Layout). IsShaped z.0 0 z.1 mine.shape) (λ i. (sym wide i, sym laid i)) (seated.1 mine.shape mine.of)

    facts : (rank * layout'.per_rank ≤ index * width') × (index * width' < rank * layout'.per_rank + layout'.per_rank) × (rank * layout'.per_rank + layout'.per_rank ≤ places layout') × (index < size mine.shape)
    facts = in_words width' 0 layout' mine.shape shaped (omega arith) index rank (subst (λ (l : Layout). rank < l.ranks) (sym laid) within) (mine.own ∙ sym ranked)

    pub mine_within : index < size mine.shape
    mine_within = facts.3

    pub mine_words : (rank * layout'.per_rank ≤ index * width') × (index * width' < 2 ^ 32) × (rank * layout'.per_rank < 2 ^ 32)
    mine_words = let f = facts in let few = shaped.few in (f.0, omega arith, omega arith)

    pub mine_stands : IsItemAt width layout (index * width') index
    mine_stands = item_stands width 0 layout mine.shape (seated.1 mine.shape mine.of) some (index * width') index mine_within (ap (λ (w : ℕ). index * w) wide)

  -- how a pass finds whether an index is its own
  module _ (shape : Shape) (of : view.key ≡ Some shape) where
    items_are : layout'.per_rank / width' ≡ shape.per_rank
    items_are = items_is width' 0 layout' shape (subst (λ (z : ℕ × Layout). IsShaped z.0 0 z.1 shape) (λ i. (sym wide i, sym laid i)) (seated.1 shape of)) (omega arith)

    first_small : rank * (layout'.per_rank / width') < 2 ^ 32
    first_small =
        let shaped' = seated.1 shape of in
        let same : rank * (layout'.per_rank / width') ≡ rank * shape.per_rank = ap (λ (n : ℕ). rank * n) items_are in
        let words : shape.per_rank ≤ shape.per_rank * width = le-mul_of_pos_right shape.per_rank some in
        let whole : layout.per_rank ≡ shape.per_rank * width = shaped'.of_items in
        let per : rank * shape.per_rank ≤ rank * layout.per_rank = mul-le-mul_left rank (omega arith) in
        let all : rank * layout.per_rank ≤ layout.ranks * layout.per_rank = mul-le-mul_right layout.per_rank (omega arith) in
        let few : layout.ranks * layout.per_rank ≤ 2 ^ 27 = shaped'.few in omega arith

    is_mine_if : rank * (layout'.per_rank / width') ≤ index → index - rank * (layout'.per_rank / width') < layout'.per_rank / width' → IsMine view index
    is_mine_if low high = let same : rank * (layout'.per_rank / width') ≡ rank * shape.per_rank = ap (λ (n : ℕ). rank * n) items_are in let per : layout'.per_rank / width' ≡ shape.per_rank = items_are in record {
      shape = shape;
      of = of;
      own = block_of width 0 layout shape (seated.1 shape of) some index rank (omega arith) (omega arith) ∙ ranked;
    }

  seat : (shape : Shape) × (view.key ≡ Some shape) × IsShaped width 0 layout shape
  seat = shape_of width view.key layout seated

  pub small_first : rank * (layout'.per_rank / width') < 2 ^ 32
  small_first = first_small seat.0 seat.1

  pub mine_if : rank * (layout'.per_rank / width') ≤ index → index - rank * (layout'.per_rank / width') < layout'.per_rank / width' → IsMine view index
  mine_if = is_mine_if seat.0 seat.1

  pub mine_then : IsMine view index → (rank * (layout'.per_rank / width') ≤ index) × (index - rank * (layout'.per_rank / width') < layout'.per_rank / width')
  mine_then mine =
      let same : rank * (layout'.per_rank / width') ≡ rank * mine.shape.per_rank = ap (λ (n : ℕ). rank * n) (items_are mine.shape mine.of) in let per : layout'.per_rank / width' ≡ mine.shape.per_rank = items_are mine.shape mine.of in
      let block = in_block width 0 layout mine.shape (seated.1 mine.shape mine.of) some index rank (mine.own ∙ sym ranked) in
      let low : rank * mine.shape.per_rank ≤ index = block.0 in let high : index < rank * mine.shape.per_rank + mine.shape.per_rank = block.1 in
      (omega arith, omega arith)
