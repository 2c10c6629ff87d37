-- What merges leave in a map.
-- A key's value is the fold of the values that were merged for it, and the same in any order of them.
use Rattle.std.proofs.Common.{◌≡◌, ◌≢◌, ℕ, ◌+◌, List, [], ◌∷◌, ◌++◌, Bool, true, false, cond, eqb, length, refl, sym, ap, ◌∙◌, subst, arith, Some, None, Option, ⊎_elim}
use Rattle.std.specs.Prelude.{IsSome, All, count_by}
use Rattle.std.specs.Str.{bytes_eq}
use Rattle.std.proofs.lemmas.Bool.{cases_Bool, cond-true, cond-false, both_ways}
use Rattle.std.proofs.lemmas.Slice.Eq.{bytes_eq-Decides}
use Rattle.std.proofs.lemmas.List.Elements.{All-head, All-tail}
use Rattle.std.proofs.lemmas.List.Sums.{fold-append, sum_by-cons}
use Rattle.bcl_words.specs.Merges.{HoldTheSame, IsSameInAnyOrder}
use Rattle.bcl_event.specs.declared.map.MapCall.{MapCall}
use Rattle.bcl_event.specs.declared.map.MapCall.TheVariants.{Find, Insert, Merge, Add}
use Rattle.bcl_event.specs.declared.map.MapReply.{MapReply}
use Rattle.bcl_event.specs.declared.map.MapReply.TheVariants.{New, Full}
use Rattle.bcl_event.specs.History.{state_after, IsLegal}
use Rattle.bcl_event.specs.Map.{Pairs, value_at, with_pair, with_value, stored, map_step}
use Rattle.bcl_event.specs.Stored.{Stores}
use Rattle.bcl_event.specs.Merged.{MapHistory, NoneFull, Merges, MergesAlone, MergeTheSame, merged_by, merged_for, folded}
use Rattle.bcl_event.proofs.Values.{pair_stores, value_stores}

-- what a value becomes, where there was one or none
abbrev became : (List ℕ → List ℕ → List ℕ) → List ℕ → Option (List ℕ) → List ℕ
became op value None = value
became op value (Some old) = op old value

-- ---- one call after another

module _ (op : List ℕ → List ℕ → List ℕ) where
  folded-nil : (o : Option (List ℕ)) → folded op o [] ≡ o
  folded-nil None = refl
  folded-nil (Some old) = refl

  folded-append : (o : Option (List ℕ)) (xs ys : List (List ℕ)) → folded op o (xs ++ ys) ≡ folded op (folded op o xs) ys
  folded-append None [] ys = refl
  folded-append None (x ∷ xs) ys = ap (λ (v : List ℕ). Some v) (fold-append op x xs ys)
  folded-append (Some old) xs ys = ap (λ (v : List ℕ). Some v) (fold-append op old xs ys)

  -- a value is stored for a key, with what was there, and for another key nothing changes
  kept : (q key value : List ℕ) (o : Option (List ℕ)) (old new : Pairs) (more : ℕ) → value_at key old ≡ o → Stores key (became op value o) old new more
      → value_at q new ≡ folded op (value_at q old) (cond (bytes_eq q key) (value ∷ []) [])
  kept q key value o old new more is stores = ⊎_elim
      (λ (t : bytes_eq q key ≡ true).
      let same : q ≡ key = (bytes_eq-Decides q key).0 t in
      ap (λ (k : List ℕ). value_at k new) same
      ∙ (stores.there
      ∙ (sym (at_key o)
      ∙ (ap (λ (z : Option (List ℕ)). folded op z (value ∷ [])) (sym (ap (λ (k : List ℕ). value_at k old) same ∙ is))
      ∙ ap (folded op (value_at q old)) (sym (cond-true (bytes_eq q key) (value ∷ []) [] t))))))
      (λ (f : bytes_eq q key ≡ false).
      stores.others q (λ same. both_ways (bytes_eq q key) f ((bytes_eq-Decides q key).1 same))
      ∙ (sym (folded-nil (value_at q old)) ∙ ap (folded op (value_at q old)) (sym (cond-false (bytes_eq q key) (value ∷ []) [] f))))
      (cases_Bool (bytes_eq q key))
    where
      at_key : (z : Option (List ℕ)) → folded op z (value ∷ []) ≡ Some (became op value z)
      at_key None = refl
      at_key (Some old) = refl

  module _ (capacity : ℕ) where
    merge_keeps : (q key value : List ℕ) (pairs : Pairs) (o : Option (List ℕ)) → value_at key pairs ≡ o → (stored capacity key value (λ old. op old value) pairs o).0 ≢ Full
        → value_at q (stored capacity key value (λ old. op old value) pairs o).1 ≡ folded op (value_at q pairs) (cond (bytes_eq q key) (value ∷ []) [])
    merge_keeps q key value pairs None e not_full = by (eqb (length pairs) capacity) not_full
      where
        by : (b : Bool) → (let a : MapReply (List ℕ) × Pairs = cond b (Full, pairs) (New, with_pair key value pairs) in a.0 ≢ Full)
            → (let a : MapReply (List ℕ) × Pairs = cond b (Full, pairs) (New, with_pair key value pairs) in value_at q a.1 ≡ folded op (value_at q pairs) (cond (bytes_eq q key) (value ∷ []) []))
        by true n = absurd (n refl)
        by false n = kept q key value None pairs (with_pair key value pairs) 1 e (pair_stores key value pairs e)
    merge_keeps q key value pairs (Some old) e not_full = kept q key value (Some old) pairs (with_value key (op old value) pairs) 0 e (value_stores key (op old value) pairs (subst IsSome (sym e) refl))

    step_keeps : (q : List ℕ) (pairs : Pairs) (call : MapCall (List ℕ) (List ℕ)) → Merges call → (map_step capacity op pairs call).0 ≢ Full
        → value_at q (map_step capacity op pairs call).1 ≡ folded op (value_at q pairs) (merged_by q call)
    step_keeps q pairs (Find key) m not_full = sym (folded-nil (value_at q pairs))
    step_keeps q pairs (Insert key value) m not_full = absurd m
    step_keeps q pairs (Merge key value) m not_full = merge_keeps q key value pairs (value_at key pairs) refl not_full
    step_keeps q pairs (Add key n) m not_full = absurd m

    folds : (q : List ℕ) (pairs : Pairs) (history : MapHistory) → IsLegal (map_step capacity op) pairs history → All (λ e. Merges e.call) history → NoneFull history
        → value_at q (state_after (map_step capacity op) pairs history) ≡ folded op (value_at q pairs) (merged_for q history)
    folds q pairs [] legal all none = sym (folded-nil (value_at q pairs))
    folds q pairs (e ∷ history) legal all none =
        let not_full = All-head (λ e. e.reply ≢ Full) e history none in
        let here = step_keeps q pairs e.call (All-head (λ e. Merges e.call) e history all) (λ full. not_full (legal.0 ∙ full)) in
        folds q (map_step capacity op pairs e.call).1 history legal.1 (All-tail (λ e. Merges e.call) e history all) (All-tail (λ e. e.reply ≢ Full) e history none)
        ∙ (ap (λ (z : Option (List ℕ)). folded op z (merged_for q history)) here
        ∙ sym (folded-append (value_at q pairs) (merged_by q e.call) (merged_for q history)))

    pub values_are_folds : (q : List ℕ) (pairs : Pairs) (history : MapHistory) → MergesAlone capacity op pairs history
        → value_at q (state_after (map_step capacity op) pairs history) ≡ folded op (value_at q pairs) (merged_for q history)
    values_are_folds q pairs history alone = folds q pairs history alone.legal alone.merges alone.none_full

-- ---- in any order

-- a list that holds the same as none is none
some_here : (x : List ℕ) (xs : List (List ℕ)) → HoldTheSame [] (x ∷ xs) → ⊥
some_here x xs same =
    let here : cond {A = ℕ} (bytes_eq x x) 1 0 ≡ 1 = ap (λ b. cond b 1 0) ((bytes_eq-Decides x x).1 refl) in
    let all : count_by (bytes_eq x) (x ∷ xs) ≡ cond {A = ℕ} (bytes_eq x x) 1 0 + count_by (bytes_eq x) xs = sum_by-cons (λ y. cond (bytes_eq x y) 1 0) x xs in
    let none : 0 ≡ count_by (bytes_eq x) (x ∷ xs) = same x in
    omega (arith, here, all, none)

module _ (passes : List ℕ → Bool) (op : List ℕ → List ℕ → List ℕ) (any_order : IsSameInAnyOrder passes op) where
  abbrev Passes : List ℕ → Type 0
  Passes value = passes value ≡ true

  folded_in_any_order : (xs ys : List (List ℕ)) → All Passes xs → All Passes ys → HoldTheSame xs ys → folded op None xs ≡ folded op None ys
  folded_in_any_order [] [] p q same = refl
  folded_in_any_order [] (y ∷ ys) p q same = absurd (some_here y ys same)
  folded_in_any_order (x ∷ xs) [] p q same = absurd (some_here x xs (λ z. sym (same z)))
  folded_in_any_order (x ∷ xs) (y ∷ ys) p q same =
      ap (λ (v : List ℕ). Some v) (any_order x y xs ys (All-head Passes x xs p) (All-head Passes y ys q) (All-tail Passes x xs p) (All-tail Passes y ys q) same)

  pub values_in_any_order : (capacity other : ℕ) (one two : MapHistory) (key : List ℕ) → MergesAlone capacity op [] one → MergesAlone other op [] two → MergeTheSame passes key one two
      → value_at key (state_after (map_step capacity op) [] one) ≡ value_at key (state_after (map_step other op) [] two)
  values_in_any_order capacity other one two key m n they =
      values_are_folds op capacity key [] one m
      ∙ (folded_in_any_order (merged_for key one) (merged_for key two) they.one_passes they.two_passes they.same
      ∙ sym (values_are_folds op other key [] two n))
