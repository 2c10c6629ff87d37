-- Calls that are dealt to ranks: that of each item is made by the rank whose home the item is.
-- What the ranks call, each the calls of its own items in some order, are the calls of all items in some order.
use Rattle.std.proofs.Common.{◌≡◌, ℕ, zero, suc, ◌+◌, ◌<◌, List, [], ◌∷◌, Bool, true, false, cond, eqb, map, refl, sym, ap, ◌∙◌, subst, arith}
use Rattle.std.specs.Prelude.{All, sum}
use Rattle.std.specs.List.{sum_by, flat_map, range_with_len, filter}
use Rattle.std.specs.List.Sorted.{IsPermutation}
use Rattle.std.proofs.lemmas.Simd.{map-map}
use Rattle.std.proofs.lemmas.List.Elements.{All-nil, All-cons}
use Rattle.std.proofs.lemmas.List.Sums.{sum-map}
use Rattle.std.proofs.lemmas.List.Sorted.{sum_by-IsPermutation, IsPermutation-refl, IsPermutation-trans, IsPermutation-sym, IsPermutation-append}
use Rattle.bcl_event.specs.declared.event.Event.{Event}
use Rattle.bcl_event.specs.History.{event, of}
use Rattle.bcl_event.proofs.Ranks.{calls_by_rank}

abbrev pub call_of : {C R : Type 0} → Event C R → C
call_of e = e.call

sum_by-map : {X Y : Type 0} (g : Y → ℕ) (f : X → Y) (xs : List X) → sum_by g (map f xs) ≡ sum_by (λ x. g (f x)) xs
sum_by-map g f xs = sym (sum-map g (map f xs)) ∙ (ap sum (map-map g f xs) ∙ sum-map (λ x. g (f x)) xs)

-- what ranks have, each in some order
ranks_permuted : {X : Type 0} (a n : ℕ) (f g : ℕ → List X) → ((r : ℕ) → r < a + n → IsPermutation (f r) (g r)) → IsPermutation (flat_map f (range_with_len a n)) (flat_map g (range_with_len a n))
ranks_permuted a zero f g each = IsPermutation-refl []
ranks_permuted a (suc n) f g each =
    IsPermutation-append (f a) (g a) (flat_map f (range_with_len (a + 1) n)) (flat_map g (range_with_len (a + 1) n)) (each a (omega arith)) (ranks_permuted (a + 1) n f g (λ r low. each r (omega arith)))

-- the items whose home a rank is
abbrev pub those_at : {X : Type 0} → (X → ℕ) → ℕ → List X → List X
those_at home_of r xs = filter (λ x. eqb (home_of x) r) xs

module _ {X C : Type 0} (home_of : X → ℕ) (call : X → C) where
  -- each call, made at the item's home
  abbrev planned : List X → List (Event C (Unit {0}))
  planned xs = map (λ x. event (home_of x) (call x) tt) xs

  planned_of : (r : ℕ) (xs : List X) → of r (planned xs) ≡ planned (those_at home_of r xs)
  planned_of r [] = refl
  planned_of r (x ∷ xs) = at (eqb (home_of x) r) (planned_of r xs)
    where
      at : (b : Bool) → of r (planned xs) ≡ planned (those_at home_of r xs)
          → cond b (event (home_of x) (call x) tt ∷ of r (planned xs)) (of r (planned xs)) ≡ planned (cond b (x ∷ those_at home_of r xs) (those_at home_of r xs))
      at true is = ap (λ (h : List (Event C (Unit {0}))). event (home_of x) (call x) tt ∷ h) is
      at false is = is

  module _ (ranks : ℕ) (low : (x : X) → home_of x < ranks) where
    ranked : (xs : List X) → All (λ e. e.rank < ranks) (planned xs)
    ranked [] = All-nil (λ e. e.rank < ranks)
    ranked (x ∷ xs) = All-cons (λ e. e.rank < ranks) (event (home_of x) (call x) tt) (planned xs) (low x) (ranked xs)

    -- where each rank has made the calls of its own items, in some order, the history has the calls of all items in some order
    pub calls_of_all : {R : Type 0} (xs : List X) (history : List (Event C R)) → All (λ e. e.rank < ranks) history → ((r : ℕ) → r < ranks → IsPermutation (map call (those_at home_of r xs)) (map call_of (of r history)))
        → IsPermutation (map call xs) (map call_of history)
    calls_of_all xs history of_ranks each =
        let plans = flat_map (λ r. map call_of (of r (planned xs))) (range_with_len 0 ranks) in
        let mines = flat_map (λ r. map call_of (of r history)) (range_with_len 0 ranks) in
        IsPermutation-trans (map call xs) plans (map call_of history)
        (subst (λ (l : List C). IsPermutation l plans) (map-map call_of (λ x. event (home_of x) (call x) tt) xs) (calls_by_rank ranks (planned xs) (ranked xs)))
        (IsPermutation-trans plans mines (map call_of history)
        (ranks_permuted 0 ranks (λ r. map call_of (of r (planned xs))) (λ r. map call_of (of r history)) (λ r within.
        subst (λ (l : List C). IsPermutation l (map call_of (of r history)))
        (sym (ap (map call_of) (planned_of r xs) ∙ map-map call_of (λ x. event (home_of x) (call x) tt) (those_at home_of r xs)))
        (each r (omega arith))))
        (IsPermutation-sym (map call_of history) mines (calls_by_rank ranks history of_ranks)))

-- a number of each call, summed up over such a history, is summed up over the items
pub summed : {X C R : Type 0} (call : X → C) (xs : List X) (history : List (Event C R)) → IsPermutation (map call xs) (map call_of history) → (f : C → ℕ) → sum_by (λ e. f e.call) history ≡ sum_by (λ x. f (call x)) xs
summed call xs history calls f = sym (sum_by-map f call_of history) ∙ (sum_by-IsPermutation f (map call xs) (map call_of history) calls ∙ sum_by-map f call xs)
