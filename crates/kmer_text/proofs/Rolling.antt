-- One step of a walk over the windows of a line.
use Rattle.std.proofs.Common.{◌≡◌, ◌∙◌, ℕ, zero, suc, ◌+◌, ◌-◌, ◌*◌, ◌%◌, ◌^◌, ◌<◌, ◌≤◌, List, ◌∷◌, length, map, take, drop, get_or, slice_range, bit_and, arith, sym, ap, refl, length-take}
use Rattle.std.proofs.Math.Nat.{two-pow-succ, mod-eq_of_lt, pow-le-pow_right}
use Rattle.std.proofs.lemmas.Nat.{and_mask}
use Rattle.kmer_text.specs.Kmers.{IsKmerLength, digit_of, number_of}
use Rattle.kmer_text.specs.Windows.{windows}
use Rattle.kmer_text.proofs.Numbers.{four-suc, four-le, number_of-lt}
use Rattle.kmer_text.proofs.Runs.{joined, shifted, windows_more}

two_to_twice : (j : ℕ) → 2 ^ (2 * j) ≡ 4 ^ j
two_to_twice zero = refl
two_to_twice (suc j) =
    let more : 2 * suc j ≡ suc (suc (2 * j)) = omega arith in
    ap (λ n. 2 ^ n) more ∙ omega (arith, two-pow-succ (2 * j), two-pow-succ (suc (2 * j)), two_to_twice j, four-suc j)

-- the mask of j letters keeps the last j
pub masked : (bits j : ℕ) → j ≤ 30 → bit_and bits (1 * 2 ^ (2 * j) % 2 ^ 64 - 1) ≡ bits % 4 ^ j
masked bits j few =
    let most : 2 ^ (2 * j) ≤ 2 ^ 60 = pow-le-pow_right {n = 2} (omega arith) {i = 2 * j} {j = 60} (omega arith) in
    let one : 1 * 2 ^ (2 * j) ≡ 2 ^ (2 * j) = omega arith in
    let fits : 2 ^ (2 * j) < 2 ^ 64 = omega (arith, most) in
    ap (λ n. bit_and bits (n % 2 ^ 64 - 1)) one
    ∙ (ap (λ n. bit_and bits (n - 1)) (mod-eq_of_lt fits) ∙ (and_mask bits (2 * j) ∙ ap (λ n. bits % n) (two_to_twice j)))

-- the letters before the last fit with room for two bits
pub front_room : (k last : ℕ) (line : List ℕ) → IsKmerLength k → k ≤ last + 1 → number_of (slice_range line (last + 1 - k) last) < 4 ^ 30
front_room k last line fits far =
    let front = slice_range line (last + 1 - k) last in
    let short : length front ≤ 30 = omega (arith, length-take (last - (last + 1 - k)) (drop (last + 1 - k) line), fits.most) in
    omega (arith, number_of-lt front, four-le (length front) 30 short)

-- what a step does, where the next window's last letter stands in the line
pub record Rolls (k last bits mask : ℕ) (line : List ℕ) : Type 0 where
  pub front : bit_and bits mask ≡ number_of (slice_range line (last + 1 + 1 - k) (last + 1))
  pub windows : map number_of (windows k (drop (last + 1 - k) line)) ≡ bits ∷ map number_of (windows k (drop (last + 1 + 1 - k) line))

pub rolls : (k last front letter digit : ℕ) (line : List ℕ) → IsKmerLength k → k ≤ last + 1 → front ≡ number_of (slice_range line (last + 1 - k) last)
    → last < length line → letter ≡ get_or line last 0 → digit ≡ digit_of letter → Rolls k last (front * 4 + digit) (1 * 2 ^ (2 * (k - 1)) % 2 ^ 64 - 1) line
rolls k last front letter digit line fits far is h at value =
    let from = last + 1 - k in
    let place : from + k ≡ last + 1 = omega arith in
    let next : from + 1 ≡ last + 1 + 1 - k = omega arith in
    let bits : front * 4 + digit ≡ number_of (take k (drop from line)) =
    ap (λ n. n * 4 + digit) is
    ∙ (ap (λ d. number_of (slice_range line from last) * 4 + d) (value ∙ ap digit_of at) ∙ sym (joined k from last line place fits.least h)) in
    record {
      front = masked (front * 4 + digit) (k - 1) (omega (arith, fits.most))
          ∙ (ap (λ n. n % 4 ^ (k - 1)) bits ∙ (shifted k from last line place fits.least h ∙ ap (λ i. number_of (slice_range line i (last + 1))) next));
      windows = ap (map number_of) (windows_more k line from (omega (arith, fits.least)) (omega arith))
          ∙ (ap (λ n. n ∷ map number_of (windows k (drop (from + 1) line))) (sym bits)
          ∙ ap (λ i. (front * 4 + digit) ∷ map number_of (windows k (drop i line))) next);
    }
