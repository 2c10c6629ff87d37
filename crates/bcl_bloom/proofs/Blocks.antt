-- How the blocks of a filter fit as ranks step.
use Rattle.std.proofs.Common.{◌≡◌, ℕ, ◌%◌, ◌<◌, List, [], ◌∷◌, length, slice_index, slice_set, refl, sym, ap, ap₂, ◌∙◌, subst, length-set, get_or-set_same, get_or-set_other}
use Rattle.std.specs.Prelude.{Bool, true, false, ◌==◌, ◌&&◌, ◌||◌, bit_or, map, take}
use Rattle.std.specs.List.{list_all, list_any, All}
use Rattle.std.proofs.Math.Bool.{or-false}
use Rattle.std.proofs.lemmas.Bool.{false≢true}
use Rattle.std.proofs.lemmas.Bool.Decides.{Decides-eqb}
use Rattle.std.proofs.lemmas.List.Elements.{All-nil, All-cons}
use lib.Seq.{set-get_or}
use Rattle.bcl_words.specs.Hash.{hash_of}
use Rattle.bcl_segment.specs.declared.layout.Layout.{Layout}
use Rattle.bcl_segment.specs.declared.layout.Spot.{Spot}
use Rattle.bcl_segment.specs.Places.{places, word_at}
use Rattle.bcl_event.specs.declared.filter.FilterCall.{FilterCall}
use Rattle.bcl_event.specs.declared.filter.FilterCall.TheVariants.{Insert, Find}
use Rattle.bcl_event.specs.Filter.{Mark, is_mark, is_marked, marks_of, four_bits, presence}
use Rattle.bcl_event.specs.SeqFilter.{has_bit}
use Rattle.bcl_event.specs.Promises.{Permits, filter_permits}
use Rattle.bcl_event.specs.History.{event}
use Rattle.bcl_phase.specs.Views.{Tick}
use Rattle.bcl_phase.specs.Rule.{Moves}
use Rattle.bcl_phase.specs.Told.{Took, Told}
use Rattle.bcl_phase.proofs.Calls.{stands_one}
use Rattle.bcl_phase.specs.Seats.{IsLaid}
use Rattle.bcl_bloom.specs.Bloom.{ranks, start, next, permits, fits}
use Rattle.bcl_bloom.specs.Calls.{FilterView, bits_of, Answers, Stands}
use Rattle.bcl_event.proofs.Bits.{has_bit-or, has_bit-none}

abbrev mark : ℕ → ℕ → Mark
mark block bit = record { block = block; bit = bit }

-- ---- marks

none_any : {X : Type 0} (xs : List X) → list_any (λ (x : X). false) xs ≡ false
none_any [] = refl
none_any (x ∷ xs) = none_any xs

any_and : {X : Type 0} (t : Bool) (p : X → Bool) (xs : List X) → list_any (λ (x : X). t && p x) xs ≡ (t && list_any p xs)
any_and true p xs = refl
any_and false p xs = none_any xs

marks_here : (m : Mark) (block h : ℕ) → list_any (is_mark m) (map (mark block) (four_bits h)) ≡ ((m.block == block) && list_any (λ bit. m.bit == bit) (four_bits h))
marks_here m block h = any_and (m.block == block) (λ bit. m.bit == bit) (four_bits h)

all_marks : (p : ℕ → Bool) (q : Mark → Bool) (block : ℕ) (bits : List ℕ) → ((bit : ℕ) → p bit ≡ q (mark block bit)) → list_all p bits ≡ list_all q (map (mark block) bits)
all_marks p q block [] f = refl
all_marks p q block (x ∷ xs) f = ap₂ (λ u v. u && v) (f x) (all_marks p q block xs f)

-- ---- where a block stands

module _ (heads h h' : ℕ) (whole key layout : Layout) (spot : Spot) (fit : Bool) (laid : IsLaid fit 0 key heads whole) (same : layout ≡ whole) (hash : h ≡ h') (word : word_at 0 layout spot ≡ h % places layout) where
  pub block_is : word_at heads whole spot ≡ h' % places key
  block_is = ap₂ (λ n l. word_at n l spot) laid.as_heads (sym same) ∙ word ∙ ap₂ (λ n l. n % places l) hash (same ∙ laid.as_layout)

  pub block_within : h % places layout < places layout → word_at heads whole spot < places key
  block_within low = subst (λ (n : ℕ). n < places key) (sym block_is) (subst (λ (z : ℕ × Layout). z.0 % places z.1 < places z.1) (λ i. (hash i, (same ∙ laid.as_layout) i)) low)

-- ---- steps

may : (layout : Layout) (promise rank : ℕ) (call : FilterCall (List ℕ)) → promise ≡ 9 → All (permits layout promise rank) (call ∷ [])
may layout promise rank call any = All-cons (permits layout promise rank) call [] (subst (λ (p : ℕ). Permits filter_permits p rank call) (sym any) tt) (All-nil (permits layout promise rank))

module _ (width : ℕ) (layout : Layout) (promise rank i : ℕ) (key : List ℕ) (any : promise ≡ 9) (at : i ≡ hash_of (take width key) % places layout) where
  -- what a block answers to the key
  answer : (ws : List ℕ) (t : List (List ℕ)) (xs : List (Unit {0})) → fits width layout promise ws t xs
      → list_all (is_marked (places layout) width t) (marks_of (places layout) width key) ≡ list_all (has_bit (slice_index ws i)) (bits_of width key)
  answer ws t xs fit = sym (all_marks (has_bit (slice_index ws i)) (is_marked (places layout) width t) (hash_of (take width key) % places layout) (bits_of width key)
      (λ bit. ap (λ (j : ℕ). has_bit (slice_index ws j) bit) at ∙ fit.1 (mark (hash_of (take width key) % places layout) bit)))

  pub finds : Moves (next width) permits (fits width) layout promise rank tt i (λ n. n) (λ n t did _. Answers width layout (Find key) (bits_of width key) n t did)
  finds ws t xs there fit small = (
    Find key ∷ [],
    tt,
    may layout promise rank (Find key) any,
    subst (λ (l : List ℕ). fits width layout promise l t (slice_set xs rank tt)) (sym (set-get_or ws i 0)) fit,
    (refl, ap presence (answer ws t xs fit)),
  )

  pub inserts : (word : ℕ) → i < places layout → ((bit : ℕ) → has_bit word bit ≡ (list_any (λ other. bit == other) (bits_of width key) || has_bit 0 bit))
      → Moves (next width) permits (fits width) layout promise rank tt i (λ n. bit_or n word) (λ n t did _. Answers width layout (Insert key) (bits_of width key) n t did)
  inserts word within has ws t xs there fit small = (
    Insert key ∷ [],
    tt,
    may layout promise rank (Insert key) any,
    (length-set ws i (bit_or (slice_index ws i) word) ∙ fit.0, marked),
    (refl, ap presence (answer ws t xs fit)),
  )
    where
      marks_too : (m : Mark) (seen : Bool) → (m.block == i) ≡ seen → has_bit (slice_index (slice_set ws i (bit_or (slice_index ws i) word)) m.block) m.bit
          ≡ ((seen && list_any (λ bit. m.bit == bit) (bits_of width key)) || is_marked (places layout) width t m)
      marks_too m true e =
          let here : m.block ≡ i = (Decides-eqb m.block i).0 e in
          let long : i < length ws = subst (λ (n : ℕ). i < n) (sym fit.0) within in
          ap (λ (j : ℕ). has_bit (slice_index (slice_set ws i (bit_or (slice_index ws i) word)) j) m.bit) here
          ∙ ap (λ (n : ℕ). has_bit n m.bit) (get_or-set_same ws i (bit_or (slice_index ws i) word) 0 long)
          ∙ has_bit-or (slice_index ws i) word m.bit
          ∙ ap₂ (λ a b. a || b) (has m.bit ∙ ap (λ (b : Bool). list_any (λ other. m.bit == other) (bits_of width key) || b) (has_bit-none m.bit) ∙ or-false (list_any (λ other. m.bit == other) (bits_of width key)))
          (ap (λ (j : ℕ). has_bit (slice_index ws j) m.bit) (sym here) ∙ fit.1 m)
      marks_too m false e = ap (λ (n : ℕ). has_bit n m.bit) (get_or-set_other ws i m.block (bit_or (slice_index ws i) word) 0 (λ same. false≢true (sym e ∙ (Decides-eqb m.block i).1 same))) ∙ fit.1 m

      marked : (m : Mark) → has_bit (slice_index (slice_set ws i (bit_or (slice_index ws i) word)) m.block) m.bit ≡ is_marked (places layout) width (key ∷ t) m
      marked m = marks_too m (m.block == i) refl ∙ ap (λ (b : Bool). b || is_marked (places layout) width t m)
          (ap (λ (j : ℕ). (m.block == j) && list_any (λ bit. m.bit == bit) (bits_of width key)) at
          ∙ sym (marks_here m (hash_of (take width key) % places layout) (hash_of (take width key))))

-- ---- what a step tells

module _ (width : ℕ) (layout : Layout) where
  pub answers_stand : (tick : Tick) (u v : FilterView) (call : FilterCall (List ℕ)) (key : List ℕ) (n h : ℕ) (bits : List ℕ) (b : Bool)
      → Took ranks start (next width) permits layout tick u v → Told start (next width) layout u (λ n t did _. Answers width layout call (bits_of width key) n t did) n v
      → h ≡ hash_of (take width key) → bits ≡ four_bits h → b ≡ list_all (has_bit n) bits
      → Stands width layout u v (event u.rank call (presence b) ∷ [])
  answers_stand tick u v call key n h bits b took told hash four all =
      stands_one ranks start (next width) permits layout tick u v (λ n t did _. Answers width layout call (bits_of width key) n t did) n call (presence b) took told told.fact.0
      (told.fact.1 ∙ sym (ap presence (all ∙ ap (list_all (has_bit n)) (four ∙ ap four_bits hash))))
