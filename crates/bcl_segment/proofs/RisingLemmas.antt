-- A counter that only rises keeps its rule.
use Rattle.std.proofs.Common.{◌≡◌, ℕ, ◌≤◌, List, length, slice_index, slice_set, sym, ⊎_elim, arith, get_or-set_same, length-set, refl, Result, Ok, Err, IfOk, if◌then◌else◌, ◌==◌, true, true≢false}
use Rattle.std.specs.Result.{is_ok}
use Rattle.atomic_table.proofs.Lists.{at_set, exchanged}
use Rattle.bcl_segment.specs.Rising.{Reached}
use Rattle.bcl_segment.specs.Steps.{found_by}

-- the counter becomes n, and the view of one seat at most n
pub raised : (words views : List ℕ) (n seat w : ℕ) → Reached words views → slice_index words 0 ≤ n → w ≤ n → Reached (slice_set words 0 n) (slice_set views seat w)
raised words views n seat w kept more below = let now : slice_index (slice_set words 0 n) 0 ≡ n = get_or-set_same words 0 n 0 kept.counter in record {
  counter = let same : length (slice_set words 0 n) ≡ length words = length-set words 0 n in let before = kept.counter in omega arith;
  views_below = λ j v at. ⊎_elim
      (λ t. let here : w ≡ v = t.1 in omega arith)
      (λ t. let other : v ≤ slice_index words 0 = kept.views_below j v t.1 in omega arith)
      (at_set views seat j w v at);
}

-- the counter is exchanged for a number that is no less
pub traded : (words views : List ℕ) (from to seat : ℕ) → Reached words views → from ≤ to
    → (w : ℕ) × Reached (slice_set words 0 (if slice_index words 0 == from then to else slice_index words 0)) (slice_set views seat w) × (slice_index words 0 ≡ from → w ≡ to)
traded words views from to seat kept more = let n = slice_index words 0 in
    exchanged n from to (λ x. (w : ℕ) × Reached (slice_set words 0 x) (slice_set views seat w) × (n ≡ from → w ≡ to))
    (λ e. (to, raised words views to seat to kept (omega arith) (omega arith), λ _. refl))
    (λ ne. (n, raised words views n seat n kept (omega arith) (omega arith), λ e. absurd (ne e)))

-- an exchange that was won found the old number
pub won : (result : Result ℕ ℕ) (old : ℕ) → IfOk result (λ n. n ≡ old) → is_ok result ≡ true → found_by result ≡ old
won (Ok n) old same is = same
won (Err n) old same is = absurd (true≢false (sym is))
