-- Lanes that change places, one after another.
use Rattle.std.proofs.Common.{◌≡◌, ◌≢◌, ℕ, ◌+◌, ◌-◌, ◌<◌, ◌≤◌, inl, inr, List, [], ◌++◌, length, set, get_or, length-set, get_or-set_same, get_or-set_other, refl, sym, ap, ap₂, ◌∙◌, subst, ⊎_elim, arith, le_refl}
use Rattle.std.specs.Prelude.{All, slice_index_or}
use Rattle.std.proofs.lemmas.Bool.{cases_eq, cases_lt}
use Rattle.std.proofs.lemmas.List.{set-append_left, set-append_right, get_or_append_left, get_or-append_right, get_or_past, get_or_default}
use Rattle.std.proofs.lemmas.List.Elements.{All-nil}
use Rattle.bcl_segment.specs.declared.layout.Layout.{Layout}
use Rattle.bcl_buffer.specs.Lanes.{Lanes, lane}
use Rattle.bcl_buffer.specs.declared.buffer.State.TheVariants.{Exchanged}
use Rattle.bcl_buffer.specs.Exchanges.{at, AllFill}
use Rattle.bcl_buffer.specs.Turning.{IsTurned, IsNext, with_lane, AreWide, AreTurning, Opened, Turned}

none_left : (r : ℕ) → r - r ≡ 0
none_left r = omega arith

module _ {A : Type 0} (bs low high : List A) (r : ℕ) (is : bs ≡ low ++ high) (long : length low ≡ r) where
  pub at_low : (s : ℕ) (d e : A) → s < r → get_or bs s d ≡ get_or low s e
  at_low s d e less = ap (λ (z : List A). get_or z s d) is ∙ (get_or_append_left low high d s (omega arith) ∙ get_or_default low s d e (omega arith))

  pub at_high : (d e : A) → 0 < length high → get_or bs r d ≡ get_or high 0 e
  at_high d e some = ap (λ (z : List A). get_or z r d) is ∙ (get_or-append_right low high r r d long (le_refl r) ∙ (ap (λ (n : ℕ). get_or high n d) (none_left r) ∙ get_or_default high 0 d e some))

  pub set_both : (s : ℕ) (x y : A) → s < r → set low s x ++ set high 0 y ≡ set (set bs s x) r y
  set_both s x y less = sym (
      ap (λ (z : List A). set (set z s x) r y) is
      ∙ (ap (λ (z : List A). set z r y) (set-append_left low high s x (omega arith))
      ∙ (set-append_right (set low s x) high r r y (length-set low s x ∙ long) (le_refl r)
      ∙ ap (λ (n : ℕ). set low s x ++ set high n y) (none_left r))))

module _ {P : Type 0} where
  abbrev swapped : List (Lanes P) → ℕ → ℕ → List (Lanes P)
  swapped bs r s = set (set bs s (with_lane (at bs s) r (lane (at bs r) s))) r (with_lane (at bs r) s (lane (at bs s) r))

  lane_given : (b : Lanes P) (j : ℕ) (l : List P) → j < length b.lanes → lane (with_lane b j l) j ≡ l
  lane_given b j l low = get_or-set_same b.lanes j l [] low

  lane_left : (b : Lanes P) (j i : ℕ) (l : List P) → i ≢ j → lane (with_lane b j l) i ≡ lane b i
  lane_left b j i l ne = get_or-set_other b.lanes j i l [] ne

  module _ (bs : List (Lanes P)) (r s : ℕ) (below : s < r) (within : r < length bs) where
    at_upper : at (swapped bs r s) r ≡ with_lane (at bs r) s (lane (at bs s) r)
    at_upper = get_or-set_same (set bs s _) r _ _ (let same = length-set bs s (with_lane (at bs s) r (lane (at bs r) s)) in omega arith)

    at_lower : at (swapped bs r s) s ≡ with_lane (at bs s) r (lane (at bs r) s)
    at_lower = get_or-set_other (set bs s _) r s _ _ (λ e. absurd (omega arith)) ∙ get_or-set_same bs s _ _ (omega arith)

    at_other : (i : ℕ) → i ≢ r → i ≢ s → at (swapped bs r s) i ≡ at bs i
    at_other i other another = get_or-set_other (set bs s _) r i _ _ other ∙ get_or-set_other bs s i _ _ another

    -- what an exchange of lanes leaves as it is
    same_at : {Y : Type 0} (f : Lanes P → Y) → ((b : Lanes P) (j : ℕ) (l : List P) → f (with_lane b j l) ≡ f b) → (i : ℕ) → f (at (swapped bs r s) i) ≡ f (at bs i)
    same_at f same i = ⊎_elim
        (λ (e : i ≡ r). ap (λ (n : ℕ). f (at (swapped bs r s) n)) e ∙ (ap f at_upper ∙ (same (at bs r) s (lane (at bs s) r) ∙ ap (λ (n : ℕ). f (at bs n)) (sym e))))
        (λ (other : i ≢ r). ⊎_elim
        (λ (e : i ≡ s). ap (λ (n : ℕ). f (at (swapped bs r s) n)) e ∙ (ap f at_lower ∙ (same (at bs s) r (lane (at bs r) s) ∙ ap (λ (n : ℕ). f (at bs n)) (sym e))))
        (λ (another : i ≢ s). ap f (at_other i other another))
        (cases_eq i s))
        (cases_eq i r)

    same_lane : (i j : ℕ) → (i ≡ r → j ≢ s) → (i ≡ s → j ≢ r) → lane (at (swapped bs r s) i) j ≡ lane (at bs i) j
    same_lane i j not_upper not_lower = ⊎_elim
        (λ (e : i ≡ r). ap (λ (n : ℕ). lane (at (swapped bs r s) n) j) e ∙ (ap (λ (b : Lanes P). lane b j) at_upper ∙ (lane_left (at bs r) s j _ (not_upper e) ∙ ap (λ (n : ℕ). lane (at bs n) j) (sym e))))
        (λ (other : i ≢ r). ⊎_elim
        (λ (e : i ≡ s). ap (λ (n : ℕ). lane (at (swapped bs r s) n) j) e ∙ (ap (λ (b : Lanes P). lane b j) at_lower ∙ (lane_left (at bs s) r j _ (not_lower e) ∙ ap (λ (n : ℕ). lane (at bs n) j) (sym e))))
        (λ (another : i ≢ s). ap (λ (b : Lanes P). lane b j) (at_other i other another))
        (cases_eq i s))
        (cases_eq i r)

  -- one more lane of a rank
  pub turned_more : (start now : List (Lanes P)) (m k : ℕ) → Turned start now m k → k < m → m < length start → Turned start (swapped now m k) m (k + 1)
  turned_more start now m k t below within =
      let count = t.count in let low : m < length now = omega arith in
      let long : length (swapped now m k) ≡ length now = length-set (set now k _) m _ ∙ length-set now k _ in record {
        count = long ∙ count;
        wide = λ r less. same_at now m k below low (λ b. length b.lanes) (λ b j l. length-set b.lanes j l) r ∙ (t.wide r (omega arith) ∙ sym long);
        turning = λ r less. same_at now m k below low (λ b. b.state) (λ b j l. refl) r ∙ t.turning r (omega arith);
        rank = λ r less. same_at now m k below low (λ b. b.rank) (λ b j l. refl) r ∙ t.rank r less;
        shape = λ r less. same_at now m k below low (λ b. b.shape) (λ b j l. refl) r ∙ t.shape r less;
        crossed = λ i j p q is. ⊎_elim
            (λ (e : i ≡ m). ⊎_elim (λ (f : j ≡ k). upper i j e f) (λ (g : j ≢ k). other i j p q is (λ _. g) (λ a. absurd (omega arith))) (cases_eq j k))
            (λ (d : i ≢ m). ⊎_elim
            (λ (e : i ≡ k). ⊎_elim (λ (f : j ≡ m). lower i j e f) (λ (g : j ≢ m). other i j p q is (λ a. absurd (d a)) (λ _. g)) (cases_eq j m))
            (λ (g : i ≢ k). other i j p q is (λ a. absurd (d a)) (λ a. absurd (g a)))
            (cases_eq i k))
            (cases_eq i m);
        kept = λ i j p q next. same_lane now m k below low i j (first i j next) (second i j next) ∙ t.kept i j p q (was_next i j next);
      }
    where
      low : m < length now
      low = let count = t.count in omega arith

      upper : (i j : ℕ) → i ≡ m → j ≡ k → lane (at (swapped now m k) i) j ≡ lane (at start j) i
      upper i j e f = ap₂ (λ (a b : ℕ). lane (at (swapped now m k) a) b) e f
          ∙ (ap (λ (b : Lanes P). lane b k) (at_upper now m k below low)
          ∙ (lane_given (at now m) k _ (let w = t.wide m low in omega arith)
          ∙ (t.kept k m (omega arith) within (inr (inr (refl, le_refl k)))
          ∙ ap₂ (λ (a b : ℕ). lane (at start a) b) (sym f) (sym e))))

      lower : (i j : ℕ) → i ≡ k → j ≡ m → lane (at (swapped now m k) i) j ≡ lane (at start j) i
      lower i j e f = ap₂ (λ (a b : ℕ). lane (at (swapped now m k) a) b) e f
          ∙ (ap (λ (b : Lanes P). lane b m) (at_lower now m k below low)
          ∙ (lane_given (at now k) m _ (let w = t.wide k (omega arith) in omega arith)
          ∙ (t.kept m k within (omega arith) (inr (inl (refl, le_refl k)))
          ∙ ap₂ (λ (a b : ℕ). lane (at start a) b) (sym f) (sym e))))

      was : (i j : ℕ) → IsTurned m (k + 1) i j → (i ≡ m → j ≢ k) → (i ≡ k → j ≢ m) → IsTurned m k i j
      was i j (inl both) not_upper not_lower = inl both
      was i j (inr (inl row)) not_upper not_lower = let ne = not_upper row.0 in let less = row.1 in inr (inl (row.0, omega arith))
      was i j (inr (inr column)) not_upper not_lower = let less = column.1 in inr (inr (column.0, ⊎_elim (λ (e : i ≡ k). absurd (not_lower e column.0)) (λ (ne : i ≢ k). omega arith) (cases_eq i k)))

      other : (i j : ℕ) → i < length start → j < length start → IsTurned m (k + 1) i j → (i ≡ m → j ≢ k) → (i ≡ k → j ≢ m) → lane (at (swapped now m k) i) j ≡ lane (at start j) i
      other i j p q is not_upper not_lower = same_lane now m k below low i j not_upper not_lower ∙ t.crossed i j p q (was i j is not_upper not_lower)

      first : (i j : ℕ) → IsNext m (k + 1) i j → i ≡ m → j ≢ k
      first i j (inl (inl more)) e f = absurd (omega arith)
      first i j (inl (inr more)) e f = absurd (omega arith)
      first i j (inr (inl row)) e f = let less = row.1 in absurd (omega arith)
      first i j (inr (inr column)) e f = let at_m = column.0 in absurd (omega arith)

      second : (i j : ℕ) → IsNext m (k + 1) i j → i ≡ k → j ≢ m
      second i j (inl (inl more)) e f = absurd (omega arith)
      second i j (inl (inr more)) e f = absurd (omega arith)
      second i j (inr (inl row)) e f = let at_m = row.0 in absurd (omega arith)
      second i j (inr (inr column)) e f = let less = column.1 in absurd (omega arith)

      was_next : (i j : ℕ) → IsNext m (k + 1) i j → IsNext m k i j
      was_next i j (inl more) = inl more
      was_next i j (inr (inl row)) = let less = row.1 in inr (inl (row.0, omega arith))
      was_next i j (inr (inr column)) = let less = column.1 in inr (inr (column.0, omega arith))

  -- a rank whose lanes for those below have all changed places
  pub turned_row : (start now : List (Lanes P)) (m : ℕ) → Turned start now m m → Turned start now (m + 1) 0
  turned_row start now m t = record {
    count = t.count;
    wide = t.wide;
    turning = t.turning;
    rank = t.rank;
    shape = t.shape;
    crossed = λ i j p q is. crosses i j p q is;
    kept = λ i j p q next. t.kept i j p q (was_next i j next);
  }
    where
      crosses : (i j : ℕ) → i < length start → j < length start → IsTurned (m + 1) 0 i j → lane (at now i) j ≡ lane (at start j) i
      crosses i j p q (inl both) = let a = both.0 in let b = both.1 in ⊎_elim
          (λ (e : i ≡ m). ⊎_elim
          (λ (f : j ≡ m). t.kept i j p q (inr (inl (e, omega arith))) ∙ ap₂ (λ (x y : ℕ). lane (at start x) y) (e ∙ sym f) (f ∙ sym e))
          (λ (g : j ≢ m). t.crossed i j p q (inr (inl (e, omega arith))))
          (cases_eq j m))
          (λ (d : i ≢ m). ⊎_elim
          (λ (f : j ≡ m). t.crossed i j p q (inr (inr (f, omega arith))))
          (λ (g : j ≢ m). t.crossed i j p q (inl (omega arith, omega arith)))
          (cases_eq j m))
          (cases_eq i m)
      crosses i j p q (inr (inl row)) = let less = row.1 in absurd (omega arith)
      crosses i j p q (inr (inr column)) = let less = column.1 in absurd (omega arith)

      was_next : (i j : ℕ) → IsNext (m + 1) 0 i j → IsNext m m i j
      was_next i j (inl (inl more)) = inl (inl (omega arith))
      was_next i j (inl (inr more)) = inl (inr (omega arith))
      was_next i j (inr (inl row)) = let e = row.0 in inl (inl (omega arith))
      was_next i j (inr (inr column)) = let e = column.0 in inl (inr (omega arith))

  -- before any has
  pub turned_none : (start : List (Lanes P)) → AreWide start → AreTurning start → Turned start start 0 0
  turned_none start wide turning = record {
    count = refl;
    wide = wide;
    turning = turning;
    rank = λ r less. refl;
    shape = λ r less. refl;
    crossed = λ i j p q is. none i j is;
    kept = λ i j p q next. refl;
  }
    where
      none : (i j : ℕ) → IsTurned 0 0 i j → lane (at start i) j ≡ lane (at start j) i
      none i j (inl both) = let less = both.0 in absurd (omega arith)
      none i j (inr (inl row)) = let less = row.1 in absurd (omega arith)
      none i j (inr (inr column)) = let less = column.1 in absurd (omega arith)

  -- all have changed places, and the first r buffers are exchanged
  pub record Settled (start now : List (Lanes P)) (r : ℕ) : Type 0 where
    pub count : length now ≡ length start
    pub wide : AreWide now
    pub rank : (i : ℕ) → i < length start → (at now i).rank ≡ (at start i).rank
    pub shape : (i : ℕ) → i < length start → (at now i).shape ≡ (at start i).shape
    pub lanes : (i j : ℕ) → i < length start → j < length start → lane (at now i) j ≡ lane (at start j) i
    pub exchanged : (i : ℕ) → i < r → (at now i).state ≡ Exchanged

  -- once all lanes have changed places, all items of a buffer are for its own rank
  pub own_items : (home : Layout → P → ℕ) (old opened now : List (Lanes P)) (m r : ℕ) (any : Lanes P) → AllFill old → Opened home old opened → Settled old now m → r < length old
      → (rank : ℕ) → All (λ p. home (slice_index_or now r any).shape p ≡ (slice_index_or now r any).rank) (lane (slice_index_or now r any) rank)
  own_items home old opened now m r any fill opens settled within rank =
      subst (λ (b : Lanes P). All (λ p. home b.shape p ≡ b.rank) (lane b rank)) (get_or_default now r _ any (let count = settled.count in omega arith)) here
    where
      shapes : (s : ℕ) → s < length old → (at old s).shape ≡ (at now r).shape
      shapes s less = fill.shape s less ∙ (sym (fill.shape r within) ∙ sym (settled.shape r within))

      ranks : r ≡ (at now r).rank
      ranks = sym (settled.rank r within ∙ fill.rank r within)

      at_rank : rank < length old → All (λ p. home (at now r).shape p ≡ (at now r).rank) (lane (at now r) rank)
      at_rank less = subst (All (λ p. home (at now r).shape p ≡ (at now r).rank)) (sym (settled.lanes r rank within less))
          (subst (λ (z : Layout × ℕ). All (λ p. home z.0 p ≡ z.1) (lane (at old rank) r)) (λ i. (shapes rank less i, ranks i)) (opens.homes rank less r))

      none : length old ≤ rank → All (λ p. home (at now r).shape p ≡ (at now r).rank) (lane (at now r) rank)
      none past = subst (All (λ p. home (at now r).shape p ≡ (at now r).rank))
          (sym (get_or_past (at now r).lanes rank [] (let count = settled.count in let wide = settled.wide r (omega arith) in omega arith)))
          (All-nil (λ p. home (at now r).shape p ≡ (at now r).rank))

      here : All (λ p. home (at now r).shape p ≡ (at now r).rank) (lane (at now r) rank)
      here = ⊎_elim at_rank none (cases_lt rank (length old))
