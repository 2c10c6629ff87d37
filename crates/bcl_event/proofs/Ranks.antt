-- A history and its ranks.
-- The events of the ranks, one rank after another, are those of the history in some order.
use Rattle.std.proofs.Common.{◌≡◌, ◌≢◌, ℕ, zero, suc, ◌+◌, ◌<◌, ◌≤◌, List, [], ◌∷◌, ◌++◌, Bool, eqb, cond, map, refl, sym, ap, ap₂, ◌∙◌, subst, arith, ⊎_elim}
use Rattle.std.specs.Prelude.{All, count_by}
use Rattle.std.specs.List.{sum_by, flat_map, range_with_len}
use Rattle.std.specs.List.Sorted.{IsPermutation}
use Rattle.std.proofs.lemmas.Bool.{cases_eq, eq-eqb, ne_eqb, cond-true, cond-false}
use Rattle.std.proofs.lemmas.List.{map-append}
use Rattle.std.proofs.lemmas.List.Elements.{All-head, All-tail}
use Rattle.std.proofs.lemmas.List.Sums.{sum_by-cons, sum_by-append}
use Rattle.std.proofs.lemmas.List.Sorted.{IsPermutation-refl, IsPermutation-trans, IsPermutation-sym, IsPermutation-append_right, IsPermutation-cons, IsPermutation-middle, IsPermutation-map, sum_by-IsPermutation}
use Rattle.bcl_event.specs.declared.event.Event.{Event}
use Rattle.bcl_event.specs.History.{of}

-- ---- lists put together

map-flat_map : {X Y Z : Type 0} (f : Y → Z) (g : X → List Y) (xs : List X) → map f (flat_map g xs) ≡ flat_map (λ x. map f (g x)) xs
map-flat_map f g [] = refl
map-flat_map f g (x ∷ xs) = map-append f (g x) (flat_map g xs) ∙ ap (λ l. map f (g x) ++ l) (map-flat_map f g xs)

sum_by-flat_map : {X Y : Type 0} (f : Y → ℕ) (g : X → List Y) (xs : List X) → sum_by f (flat_map g xs) ≡ sum_by (λ x. sum_by f (g x)) xs
sum_by-flat_map f g [] = refl
sum_by-flat_map f g (x ∷ xs) =
    sum_by-append f (g x) (flat_map g xs)
    ∙ (ap (λ (n : ℕ). sum_by f (g x) + n) (sum_by-flat_map f g xs)
    ∙ sym (sum_by-cons (λ x. sum_by f (g x)) x xs))

-- ---- one event more

module _ {C R : Type 0} where
  module _ (e : Event C R) (history : List (Event C R)) where
    of_its_rank : of e.rank (e ∷ history) ≡ e ∷ of e.rank history
    of_its_rank = cond-true (eqb e.rank e.rank) (e ∷ of e.rank history) (of e.rank history) (eq-eqb e.rank e.rank refl)

    of_another : (r : ℕ) → e.rank ≢ r → of r (e ∷ history) ≡ of r history
    of_another r differ = cond-false (eqb e.rank r) (e ∷ of r history) (of r history) (ne_eqb e.rank r differ)

    -- no rank from a on is its own
    above : (a n : ℕ) → e.rank < a → flat_map (λ r. of r (e ∷ history)) (range_with_len a n) ≡ flat_map (λ r. of r history) (range_with_len a n)
    above a zero low = refl
    above a (suc n) low = ap₂ ◌++◌ (of_another a (λ is. omega arith)) (above (a + 1) n (omega arith))

    -- the event is among those of the ranks from a on, and else they are as before
    within : (a n : ℕ) → a ≤ e.rank → e.rank < a + n → IsPermutation (e ∷ flat_map (λ r. of r history) (range_with_len a n)) (flat_map (λ r. of r (e ∷ history)) (range_with_len a n))
    within a zero low high = absurd (omega arith)
    within a (suc n) low high =
        let here = of a history in
        let rest = flat_map (λ r. of r history) (range_with_len (a + 1) n) in
        let all = flat_map (λ r. of r (e ∷ history)) (range_with_len (a + 1) n) in
        ⊎_elim
        (λ (is : e.rank ≡ a).
        let first : of a (e ∷ history) ≡ e ∷ here = subst (λ r. of r (e ∷ history) ≡ e ∷ of r history) is of_its_rank in
        subst (λ (l : List (Event C R)). IsPermutation (e ∷ (here ++ rest)) l) (sym (ap₂ ◌++◌ first (above (a + 1) n (omega arith)))) (IsPermutation-refl (e ∷ (here ++ rest))))
        (λ (differ : e.rank ≢ a).
        subst (λ (l : List (Event C R)). IsPermutation (e ∷ (here ++ rest)) (l ++ all)) (sym (of_another a differ))
        (IsPermutation-trans (e ∷ (here ++ rest)) (here ++ e ∷ rest) (here ++ all)
        (IsPermutation-sym (here ++ e ∷ rest) (e ∷ (here ++ rest)) (IsPermutation-middle here e rest))
        (IsPermutation-append_right here (e ∷ rest) all (within (a + 1) n (omega arith) (omega arith)))))
        (cases_eq e.rank a)

  nothing_of_ranks : (a n : ℕ) → [] ≡ flat_map (λ r. of {C = C} {R = R} r []) (range_with_len a n)
  nothing_of_ranks a zero = refl
  nothing_of_ranks a (suc n) = nothing_of_ranks (a + 1) n

  module _ (ranks : ℕ) where
    pub events_by_rank : (history : List (Event C R)) → All (λ e. e.rank < ranks) history → IsPermutation history (flat_map (λ r. of r history) (range_with_len 0 ranks))
    events_by_rank [] low = subst (λ (l : List (Event C R)). IsPermutation [] l) (nothing_of_ranks 0 ranks) (IsPermutation-refl [])
    events_by_rank (e ∷ history) low =
        let before = flat_map (λ r. of r history) (range_with_len 0 ranks) in
        let high : e.rank < ranks = All-head (λ e. e.rank < ranks) e history low in
        IsPermutation-trans (e ∷ history) (e ∷ before) (flat_map (λ r. of r (e ∷ history)) (range_with_len 0 ranks))
        (IsPermutation-cons e history before (events_by_rank history (All-tail (λ e. e.rank < ranks) e history low)))
        (within e history 0 ranks (omega arith) (omega arith))

    module _ (history : List (Event C R)) (low : All (λ e. e.rank < ranks) history) where
      pub calls_by_rank : IsPermutation (map (λ e. e.call) history) (flat_map (λ r. map (λ e. e.call) (of r history)) (range_with_len 0 ranks))
      calls_by_rank =
          subst (λ (l : List C). IsPermutation (map (λ e. e.call) history) l) (map-flat_map (λ (e : Event C R). e.call) (λ r. of r history) (range_with_len 0 ranks))
          (IsPermutation-map (λ (e : Event C R). e.call) history (flat_map (λ r. of r history) (range_with_len 0 ranks)) (events_by_rank history low))

      pub count_by_rank : (test : C → Bool) → count_by (λ e. test e.call) history ≡ sum_by (λ r. count_by (λ e. test e.call) (of r history)) (range_with_len 0 ranks)
      count_by_rank test =
          sym (sum_by-IsPermutation (λ (e : Event C R). cond (test e.call) 1 0) history (flat_map (λ r. of r history) (range_with_len 0 ranks)) (events_by_rank history low))
          ∙ sum_by-flat_map (λ (e : Event C R). cond (test e.call) 1 0) (λ r. of r history) (range_with_len 0 ranks)
