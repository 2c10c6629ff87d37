-- Lanes that are emptied one after another.
use Rattle.std.proofs.Common.{◌≡◌, ◌≢◌, ℕ, zero, suc, ◌+◌, ◌<◌, ◌≤◌, List, [], ◌∷◌, ◌++◌, length, drop, set, get_or, replicate, refl, sym, ap, ap₂, ◌∙◌, subst, ⊎_elim, arith, get_or-set_same, get_or-set_other}
use Rattle.std.specs.Prelude.{All, slice_index_or}
use Rattle.std.specs.List.{flat_map}
use Rattle.std.proofs.lemmas.Bool.{cases_eq, cases_lt}
use Rattle.std.proofs.lemmas.List.{append_assoc, get_or_past, get_or_default}
use Rattle.std.proofs.lemmas.List.Elements.{All-nil, All-tail, All-weaker}
use Rattle.bcl_words.specs.declared.pair.Pair.{Pair}
use Rattle.bcl_segment.specs.declared.layout.Layout.{Layout}
use Rattle.bcl_phase.specs.Stands.{GoesOn}
use Rattle.bcl_map.specs.Map.{Words}
use Rattle.bcl_map.specs.Calls.{MapView, IsMine}
use Rattle.bcl_buffer.specs.declared.buffer.State.TheVariants.{Filling, Exchanged}
use Rattle.bcl_buffer.specs.Lanes.{Lanes, lane, home_in, IsPlaced}
use Rattle.bcl_buffer.specs.Drains.{IsFor, shape_in}

module _ {P : Type 0} where
  abbrev pub joined : List (List P) → List P
  joined ls = flat_map (λ l. l) ls

  abbrev pub lane_at : List (List P) → ℕ → List P
  lane_at ls r = slice_index_or ls r []

  -- those before the place are empty
  abbrev pub AreEmpty : List (List P) → ℕ → Type 0
  AreEmpty ls i = (r : ℕ) → r < i → lane_at ls r ≡ []

  from_here : (ls : List (List P)) (i : ℕ) → i < length ls → AreEmpty ls i → joined ls ≡ lane_at ls i ++ joined (drop (suc i) ls)
  from_here [] i low none = absurd (omega arith)
  from_here (l ∷ ls) zero low none = refl
  from_here (l ∷ ls) (suc i) low none = ap (λ (x : List P). x ++ joined ls) (none 0 (omega arith)) ∙ from_here ls i (omega arith) (λ r less. none (suc r) (omega arith))

  set_here : (ls : List (List P)) (i : ℕ) (x : List P) → i < length ls → AreEmpty ls i → joined (set ls i x) ≡ x ++ joined (drop (suc i) ls)
  set_here [] i x low none = absurd (omega arith)
  set_here (l ∷ ls) zero x low none = refl
  set_here (l ∷ ls) (suc i) x low none = ap (λ (y : List P). y ++ joined (set ls i x)) (none 0 (omega arith)) ∙ set_here ls i x (omega arith) (λ r less. none (suc r) (omega arith))

  -- a front of the lane was taken
  pub taken_here : (all done d rest : List P) (ls : List (List P)) (i : ℕ) → i < length ls → AreEmpty ls i → all ≡ done ++ joined ls → lane_at ls i ≡ d ++ rest → all ≡ (done ++ d) ++ joined (set ls i rest)
  taken_here all done d rest ls i low none e f =
      e ∙ (ap (λ (l : List P). done ++ l) (from_here ls i low none ∙ (ap (λ (l : List P). l ++ joined (drop (suc i) ls)) f ∙ (append_assoc d rest (joined (drop (suc i) ls)) ∙ ap (λ (l : List P). d ++ l) (sym (set_here ls i rest low none)))))
      ∙ sym (append_assoc done d (joined (set ls i rest))))

  pub emptied_more : (ls : List (List P)) (i : ℕ) → i < length ls → AreEmpty ls i → AreEmpty (set ls i []) (i + 1)
  emptied_more ls i low none r less = ⊎_elim
      (λ (e : r ≡ i). ap (λ (n : ℕ). lane_at (set ls i []) n) e ∙ get_or-set_same ls i [] [] low)
      (λ (ne : r ≢ i). get_or-set_other ls i r [] [] ne ∙ none r (omega arith))
      (cases_eq r i)

  pub all_emptied : (ls : List (List P)) (n : ℕ) → length ls ≡ n → AreEmpty ls n → ls ≡ replicate n []
  all_emptied [] zero long none = refl
  all_emptied [] (suc n) long none = absurd (omega arith)
  all_emptied (l ∷ ls) zero long none = absurd (omega arith)
  all_emptied (l ∷ ls) (suc n) long none = ap₂ ◌∷◌ (none 0 (omega arith)) (all_emptied ls n (omega arith) (λ r less. none (suc r) (omega arith)))

  pub joined_none : (ls : List (List P)) (n : ℕ) → length ls ≡ n → AreEmpty ls n → joined ls ≡ []
  joined_none [] n long none = refl
  joined_none (l ∷ ls) n long none = ap (λ (x : List P). x ++ joined ls) (none 0 (omega arith)) ∙ joined_none ls (length ls) refl (λ r less. none (suc r) (omega arith))

  pub placed_set : (Q : P → Type 0) (ls : List (List P)) (i : ℕ) (x : List P) → i < length ls → ((r : ℕ) → All Q (lane_at ls r)) → All Q x → (r : ℕ) → All Q (lane_at (set ls i x) r)
  placed_set Q ls i x low all here r = ⊎_elim
      (λ (e : r ≡ i). subst (All Q) (sym (ap (λ (n : ℕ). lane_at (set ls i x) n) e ∙ get_or-set_same ls i x [] low)) here)
      (λ (ne : r ≢ i). subst (All Q) (sym (get_or-set_other ls i r x [] ne)) (all r))
      (cases_eq r i)

  pub here_is : (ls : List (List P)) (i : ℕ) (x : List P) → i < length ls → x ≡ get_or ls i x → x ≡ lane_at ls i
  here_is ls i x low e = e ∙ get_or_default ls i x [] low

  pub all_behind : (Q : P → Type 0) (front xs : List P) → All Q (front ++ xs) → All Q xs
  all_behind Q [] xs a = a
  all_behind Q (x ∷ front) xs a = all_behind Q front xs (All-tail Q x (front ++ xs) a)

  -- a pair is left between what was merged and the others
  pub full_left : (p : P) (all done d others : List P) → all ≡ (done ++ (d ++ p ∷ [])) ++ others → all ≡ (done ++ d) ++ p ∷ others
  full_left p all done d others e = e ∙ (ap (λ (l : List P). l ++ others) (sym (append_assoc done d (p ∷ []))) ∙ append_assoc (done ++ d) (p ∷ []) others)

  pub same_but_lanes : (b old : Lanes P) → b.rank ≡ old.rank → b.shape ≡ old.shape → b.state ≡ old.state → b ≡ record old { lanes = b.lanes }
  same_but_lanes b old rank shape state i = record { rank = rank i; shape = shape i; state = state i; lanes = b.lanes }

  pub filling_again : (b old : Lanes P) → b.rank ≡ old.rank → b.shape ≡ old.shape → b.state ≡ Filling → b.lanes ≡ replicate old.shape.ranks [] → b ≡ record old { state = Filling; lanes = replicate old.shape.ranks [] }
  filling_again b old rank shape state lanes i = record { rank = rank i; shape = shape i; state = state i; lanes = lanes i }

  -- of no items all stand where they belong
  pub placed_none : (home : P → ℕ) (b : Lanes P) (n : ℕ) → length b.lanes ≡ n → AreEmpty b.lanes n → IsPlaced home b
  placed_none home b n long none = record {
    filling = λ is rank. subst (All (λ p. home p ≡ rank)) (sym (no_item rank)) (All-nil (λ p. home p ≡ rank));
    exchanged = λ is rank. subst (All (λ p. home p ≡ b.rank)) (sym (no_item rank)) (All-nil (λ p. home p ≡ b.rank));
  }
    where
      no_item : (rank : ℕ) → lane b rank ≡ []
      no_item rank = ⊎_elim (none rank) (λ (past : n ≤ rank). get_or_past b.lanes rank [] (omega arith)) (cases_lt rank n)

  pub placed_in : (home : Layout → P → ℕ) (b old : Lanes P) → b.rank ≡ old.rank → b.shape ≡ old.shape → b.state ≡ Exchanged → ((rank : ℕ) → All (λ p. home old.shape p ≡ old.rank) (lane b rank)) → IsPlaced (home b.shape) b
  placed_in home b old same_rank same_shape exchanged all = record {
    filling = λ is. absurd (not_both (sym exchanged ∙ is));
    exchanged = λ is rank. subst (λ (z : Layout × ℕ). All (λ p. home z.0 p ≡ z.1) (lane b rank)) (λ i. (sym same_shape i, sym same_rank i)) (all rank);
  }
    where
      not_both : Exchanged ≢ Filling
      not_both e = cc

  pub placed_out : (home : Layout → P → ℕ) (b old : Lanes P) → b ≡ old → old.state ≡ Exchanged → IsPlaced (home b.shape) b → (rank : ℕ) → All (λ p. home old.shape p ≡ old.rank) (lane b rank)
  placed_out home b old same exchanged placed rank =
      subst (λ (z : Lanes P). All (λ p. home z.shape p ≡ z.rank) (lane b rank)) same (placed.exchanged (ap (λ (z : Lanes P). z.state) same ∙ exchanged) rank)

module _ {K V : Type 0} (width : ℕ) (key : K → Words) where
  pub mine_of : (buffer : Lanes (Pair K V)) (u v : MapView) → IsFor width buffer u → GoesOn u v → (xs : List (Pair K V)) → All (λ p. home_in width buffer.shape (key p.a) ≡ buffer.rank) xs → All (λ p. IsMine v (key p.a)) xs
  mine_of buffer u v f on xs all = All-weaker (λ p. home_in width buffer.shape (key p.a) ≡ buffer.rank) (λ p. IsMine v (key p.a))
      (λ p h. record { shape = shape_in width buffer.shape; of = on.same_key ∙ f.of; own = h ∙ (sym f.rank ∙ sym on.same_rank) }) xs all
