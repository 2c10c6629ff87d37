-- Places of lines in a row, and those of them that pass a test.
use Rattle.std.proofs.Common.{◌≡◌, ℕ, ◌+◌, ◌-◌, ◌≤◌, List, [], ◌∷◌, ◌++◌, Bool, true, false, cond, length, filter, ap, ◌∙◌, arith}
use Rattle.std.specs.List.{range_with_len}
use Rattle.std.proofs.lemmas.List.Elements.{filter-append}
use Rattle.std.proofs.lemmas.List.Sums.{length-filter, count_by-le-length}
use Rattle.std.proofs.lemmas.List.FromFn.{length-range_with_len}
use Rattle.kmer_text.proofs.Ranges.{range-append}

module _ (test : ℕ → Bool) where
  -- those from one place up to another
  abbrev pub places_from : ℕ → ℕ → List ℕ
  places_from first end = filter test (range_with_len first (end - first))

  pub places_none : (first end : ℕ) → end ≤ first → places_from first end ≡ []
  places_none first end low =
      let none : end - first ≡ 0 = omega arith in
      ap (λ (n : ℕ). filter test (range_with_len first n)) none

  -- a row is cut at any place of it
  pub places_split : (first middle end : ℕ) → first ≤ middle → middle ≤ end → places_from first end ≡ places_from first middle ++ places_from middle end
  places_split first middle end low high =
      let both : end - first ≡ (middle - first) + (end - middle) = omega arith in
      let at : first + (middle - first) ≡ middle = omega arith in
      ap (λ (n : ℕ). filter test (range_with_len first n)) both
      ∙ (ap (filter test) (range-append first (middle - first) (end - middle))
      ∙ (filter-append test (range_with_len first (middle - first)) (range_with_len (first + (middle - first)) (end - middle))
      ∙ ap (λ (m : ℕ). places_from first middle ++ filter test (range_with_len m (end - middle))) at))

  one_place : (place : ℕ) → places_from place (place + 1) ≡ cond (test place) (place ∷ []) []
  one_place place =
      let one : place + 1 - place ≡ 1 = omega arith in
      ap (λ (n : ℕ). filter test (range_with_len place n)) one

  -- a place that passes, and one that doesn't
  pub place_is : (place : ℕ) → test place ≡ true → places_from place (place + 1) ≡ place ∷ []
  place_is place is = one_place place ∙ ap (λ b. cond b (place ∷ []) []) is

  pub place_not : (place : ℕ) → test place ≡ false → places_from place (place + 1) ≡ []
  place_not place is = one_place place ∙ ap (λ b. cond b (place ∷ []) []) is

  pub places_more : (first place : ℕ) → first ≤ place → places_from first (place + 1) ≡ places_from first place ++ places_from place (place + 1)
  places_more first place low = places_split first place (place + 1) low (omega arith)

  -- there are no more than places
  pub places_few : (first n : ℕ) → length (filter test (range_with_len first n)) ≤ n
  places_few first n = omega (arith, length-filter test (range_with_len first n), count_by-le-length test (range_with_len first n), length-range_with_len first n)
