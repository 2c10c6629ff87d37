-- That the sum keeps the laws of merges.
-- The laws of `MergeLaw` at `Sum` cite these.
use Rattle.std.specs.Prelude.{◌≡◌, ℕ, ◌+◌, ◌%◌, ◌^◌, List, true, slice_index}
use Rattle.std.proofs.Common.{ap, arith}
use Rattle.bcl_words.specs.Numbers.{one_word, is_below}
use Rattle.bcl_words.specs.NumberLaws.{one_passes}
use Rattle.bcl_merge.specs.Sum.{sum_of}

pub sum_closed : (a b : List ℕ) → is_below (2 ^ 64) (sum_of a b) ≡ true
sum_closed a b = one_passes (2 ^ 64) ((slice_index a 0 + slice_index b 0) % 2 ^ 64) (omega arith) (omega arith)

pub sum_commutative : (a b : List ℕ) → sum_of a b ≡ sum_of b a
sum_commutative a b = let e : slice_index a 0 + slice_index b 0 ≡ slice_index b 0 + slice_index a 0 = omega arith in ap (λ n. one_word (n % 2 ^ 64)) e

pub sum_associative : (a b c : List ℕ) → sum_of (sum_of a b) c ≡ sum_of a (sum_of b c)
sum_associative a b c = ap one_word (within (slice_index a 0) (slice_index b 0) (slice_index c 0))
  where
    within : (x y z : ℕ) → ((x + y) % 2 ^ 64 + z) % 2 ^ 64 ≡ (x + (y + z) % 2 ^ 64) % 2 ^ 64
    within x y z = omega arith
