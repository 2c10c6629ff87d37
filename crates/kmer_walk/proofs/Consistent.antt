-- Lines that are consistent block by block, and the first that conflicts.
use Rattle.std.proofs.Common.{◌≡◌, ◌∙◌, ℕ, zero, suc, ◌+◌, ◌<◌, ◌≤◌, true, false, List, length, take, None, Some, refl, sym, ap, subst, arith, ⊎_elim}
use Rattle.std.specs.List.{position}
use Rattle.std.specs.Option.{option_map}
use Rattle.std.proofs.Math.Nat.{mul-div_cancel_left}
use Rattle.std.proofs.lemmas.Bool.{cases_lt}
use Rattle.std.proofs.lemmas.List.{take_all}
use Rattle.kmer_text.specs.Nodes.{line_at}
use Rattle.kmer_blocks.specs.Blocks.{begins_at}
use Rattle.kmer_blocks.proofs.Blocks.{begins_within}
use Rattle.kmer_paths.specs.Keys.{conflicts, first_conflict}
use Rattle.kmer_paths.proofs.Places.{position-other, position-first}
use Rattle.kmer_walk.specs.Checks.{AreConsistent, IsConflict}

module _ (k : ℕ) (lines : List (List ℕ)) where
  -- ---- one part of the lines after another

  pub consistent_none : (first : ℕ) → AreConsistent k lines first first
  consistent_none first place low high = absurd (omega arith)

  pub consistent_more : (first middle end : ℕ) → AreConsistent k lines first middle → AreConsistent k lines middle end → AreConsistent k lines first end
  consistent_more first middle end front back place low high = ⊎_elim (λ (l : place < middle). front place low l) (λ (g : middle ≤ place). back place g high) (cases_lt place middle)

  pub conflict_later : (first middle end number : ℕ) → first ≤ middle → AreConsistent k lines first middle → IsConflict k lines middle end number → IsConflict k lines first end number
  conflict_later first middle end number up front c = let low = c.low in record {
    place = c.place;
    is = c.is;
    low = omega arith;
    high = c.high;
    here = c.here;
    before = consistent_more first middle c.place front c.before;
  }

  pub conflict_earlier : (first middle end number : ℕ) → middle ≤ end → IsConflict k lines first middle number → IsConflict k lines first end number
  conflict_earlier first middle end number up c = let high = c.high in record { place = c.place; is = c.is; low = c.low; high = omega arith; here = c.here; before = c.before }

  -- ---- all lines

  none_to : (n : ℕ) → n ≤ length lines → AreConsistent k lines 0 n → position (conflicts k lines) (take n lines) ≡ None
  none_to zero low all = refl
  none_to (suc n) low all =
      let s : suc n ≡ n + 1 = omega arith in
      ap (λ (m : ℕ). position (conflicts k lines) (take m lines)) s
      ∙ (position-other (conflicts k lines) lines n (omega arith) (all n (omega arith) (omega arith)) ∙ none_to n (omega arith) (λ place l h. all place l (omega arith)))

  pub all_consistent : AreConsistent k lines 0 (length lines) → first_conflict k lines ≡ None
  all_consistent all = ap (position (conflicts k lines)) (sym (take_all (length lines) lines (omega arith))) ∙ none_to (length lines) (omega arith) all

  pub first_is : (number : ℕ) → IsConflict k lines 0 (length lines) number → option_map (λ place. place + 1) (first_conflict k lines) ≡ Some number
  first_is number c =
      let high = c.high in
      ap (option_map (λ place. place + 1)) (position-first (conflicts k lines) lines c.place high (none_to c.place (omega arith) c.before) c.here) ∙ ap (λ (m : ℕ). Some m) (sym c.is)

  -- ---- block by block

  module _ (ranks : ℕ) (some : 0 < ranks) where
    abbrev begin : ℕ → ℕ
    begin rank = begins_at rank ranks lines

    zero_begins : begin 0 ≡ 0
    zero_begins = grind arith

    last_ends : begin ranks ≡ length lines
    last_ends = mul-div_cancel_left (length lines) some

    pub blocks_consistent : (m : ℕ) → ((r : ℕ) → r < m → AreConsistent k lines (begin r) (begin (r + 1))) → AreConsistent k lines 0 (begin m)
    blocks_consistent zero each = let z = zero_begins in λ place low high. absurd (omega arith)
    blocks_consistent (suc m) each =
        let s : m + 1 ≡ suc m = omega arith in
        consistent_more 0 (begin m) (begin (suc m)) (blocks_consistent m (λ r low. each r (omega arith)))
        (subst (λ (n : ℕ). AreConsistent k lines (begin m) (begin n)) s (each m (omega arith)))

    pub all_blocks : ((r : ℕ) → r < ranks → AreConsistent k lines (begin r) (begin (r + 1))) → first_conflict k lines ≡ None
    all_blocks each = all_consistent (subst (AreConsistent k lines 0) last_ends (blocks_consistent ranks each))

    -- the first conflict of the first rank that has one is the first of all
    pub first_of_blocks : (m number : ℕ) → m < ranks → ((r : ℕ) → r < m → AreConsistent k lines (begin r) (begin (r + 1))) → IsConflict k lines (begin m) (begin (m + 1)) number
        → option_map (λ place. place + 1) (first_conflict k lines) ≡ Some number
    first_of_blocks m number low each c =
        first_is number (conflict_earlier 0 (begin (m + 1)) (length lines) number (begins_within (m + 1) ranks lines some (omega arith))
        (conflict_later 0 (begin m) (begin (m + 1)) number (omega arith) (blocks_consistent m each) c))

-- one line
pub line_consistent : (k : ℕ) (lines : List (List ℕ)) (place : ℕ) → conflicts k lines (line_at lines place) ≡ false → AreConsistent k lines place (place + 1)
line_consistent k lines place is q low high = let here : q ≡ place = omega arith in ap (λ (z : ℕ). conflicts k lines (line_at lines z)) here ∙ is

pub line_conflicts : (k : ℕ) (lines : List (List ℕ)) (place number : ℕ) → number ≡ place + 1 → conflicts k lines (line_at lines place) ≡ true → IsConflict k lines place (place + 1) number
line_conflicts k lines place number is here = record { place = place; is = is; low = omega arith; high = omega arith; here = here; before = consistent_none k lines place }
