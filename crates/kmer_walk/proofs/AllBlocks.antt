-- Places that pass a test, dealt to ranks in blocks: those of all blocks are those of the whole list.
use Rattle.std.proofs.Common.{◌≡◌, ℕ, zero, suc, ◌+◌, ◌-◌, ◌<◌, List, ◌++◌, Bool, length, filter, sym, ap, ◌∙◌, arith}
use Rattle.std.specs.List.{flat_map, range_with_len}
use Rattle.std.proofs.Math.Nat.{mul-div_cancel_left}
use Rattle.kmer_blocks.specs.Blocks.{begins_at}
use Rattle.kmer_blocks.proofs.Blocks.{block_within}
use Rattle.kmer_walk.proofs.Places.{places_from, places_none, places_split}

module _ {X : Type 0} (test : ℕ → Bool) (ranks : ℕ) (some : 0 < ranks) (xs : List X) where
  abbrev of_rank : ℕ → List ℕ
  of_rank rank = places_from test (begins_at rank ranks xs) (begins_at (rank + 1) ranks xs)

  -- those of the ranks from one on
  from_rank : (n rank : ℕ) → rank + n ≡ ranks → flat_map of_rank (range_with_len rank n) ≡ places_from test (begins_at rank ranks xs) (length xs)
  from_rank zero rank last =
      let is : rank ≡ ranks = omega arith in
      let whole : begins_at ranks ranks xs ≡ length xs = mul-div_cancel_left (length xs) some in
      let end : begins_at rank ranks xs ≡ length xs = ap (λ (r : ℕ). begins_at r ranks xs) is ∙ whole in
      sym (places_none test (begins_at rank ranks xs) (length xs) (omega arith))
  from_rank (suc n) rank more =
      let within = block_within rank ranks xs (omega arith) in
      ap (λ (l : List ℕ). of_rank rank ++ l) (from_rank n (rank + 1) (omega arith))
      ∙ sym (places_split test (begins_at rank ranks xs) (begins_at (rank + 1) ranks xs) (length xs) within.0 within.1)

  pub blocks_are_whole : flat_map (λ rank. filter test (range_with_len (begins_at rank ranks xs) (begins_at (rank + 1) ranks xs - begins_at rank ranks xs))) (range_with_len 0 ranks) ≡ filter test (range_with_len 0 (length xs))
  blocks_are_whole =
      let first : begins_at 0 ranks xs ≡ 0 = grind arith in
      let all : length xs - 0 ≡ length xs = omega arith in
      from_rank ranks 0 (omega arith)
      ∙ (ap (λ (a : ℕ). places_from test a (length xs)) first ∙ ap (λ (n : ℕ). filter test (range_with_len 0 n)) all)
