-- The blocks of all ranks.
-- Those of the first ranks, one after another, are the items up to where the next block begins.
use Rattle.std.proofs.Common.{◌≡◌, ℕ, zero, suc, ◌+◌, ◌*◌, ◌-◌, ◌/◌, ◌<◌, ◌≤◌, List, [], ◌∷◌, ◌++◌, length, take, drop, sym, ap, ◌∙◌, arith}
use Rattle.std.specs.List.{flat_map, range_with_len}
use Rattle.std.proofs.Math.Nat.{div-mul-le_self, mul-div_cancel_left, mul-le-mul_right}
use Rattle.std.proofs.Math.Seq.{take-add}
use Rattle.std.proofs.lemmas.Nat.{le-div}
use Rattle.std.proofs.lemmas.List.{take_all, append-nil}
use Rattle.std.proofs.lemmas.List.Concat.{flat_map-append}
use Rattle.kmer_blocks.specs.Blocks.{begins_at, block}

range_more : (a n : ℕ) → range_with_len a (suc n) ≡ range_with_len a n ++ (a + n) ∷ []
range_more a zero = ap (λ (x : ℕ). x ∷ []) (omega arith)
range_more a (suc n) = ap (λ (l : List ℕ). a ∷ l) (range_more (a + 1) n ∙ ap (λ (x : ℕ). range_with_len (a + 1) n ++ x ∷ []) (omega arith))

-- what each of so many ranks has, one rank after another, and one rank more
of_one_more : {X : Type 0} (n : ℕ) (has : ℕ → List X) → flat_map has (range_with_len 0 (suc n)) ≡ flat_map has (range_with_len 0 n) ++ has n
of_one_more n has = ap (flat_map has) (range_more 0 n) ∙ (flat_map-append has (range_with_len 0 n) ((0 + n) ∷ []) ∙ ap (λ l. flat_map has (range_with_len 0 n) ++ l) (append-nil (has (0 + n)) ∙ ap has (omega arith)))

module _ {X : Type 0} (n : ℕ) (some : 0 < n) (xs : List X) where
  rises : (rank : ℕ) → begins_at rank n xs ≤ begins_at (suc rank) n xs
  rises rank = le-div (begins_at rank n xs) (suc rank * length xs) n some (grind (arith, div-mul-le_self (rank * length xs) n))

  one_block : (rank : ℕ) → take (begins_at rank n xs) xs ++ block rank n xs ≡ take (begins_at (suc rank) n xs) xs
  one_block rank =
      let a = begins_at rank n xs in let b = begins_at (suc rank) n xs in
      let up = rises rank in
      let e : a + (b - a) ≡ b = omega arith in
      let s : rank + 1 ≡ suc rank = omega arith in
      ap (λ (k : ℕ). take a xs ++ take (begins_at k n xs - a) (drop a xs)) s ∙ (sym (take-add a (b - a) xs) ∙ ap (λ (k : ℕ). take k xs) e)

  up_to : (ranks : ℕ) → flat_map (λ rank. block rank n xs) (range_with_len 0 ranks) ≡ take (begins_at ranks n xs) xs
  up_to zero = let z : begins_at 0 n xs ≡ 0 = grind arith in ap (λ (j : ℕ). take j xs) (sym z)
  up_to (suc ranks) = of_one_more ranks (λ rank. block rank n xs) ∙ (ap (λ (l : List X). l ++ block ranks n xs) (up_to ranks) ∙ one_block ranks)

  pub blocks_are_all : flat_map (λ rank. block rank n xs) (range_with_len 0 n) ≡ xs
  blocks_are_all = let z : begins_at n n xs ≡ length xs = mul-div_cancel_left (length xs) some in up_to n ∙ (ap (λ (j : ℕ). take j xs) z ∙ take_all (length xs) xs (omega arith))

-- a block begins within the list
pub begins_within : {X : Type 0} (rank n : ℕ) (xs : List X) → 0 < n → rank ≤ n → begins_at rank n xs ≤ length xs
begins_within rank n xs some low =
    let q = begins_at rank n xs in
    let below : q * n ≤ rank * length xs = div-mul-le_self (rank * length xs) n in
    let most : rank * length xs ≤ n * length xs = mul-le-mul_right (length xs) low in
    let up : q ≤ n * length xs / n = le-div q (n * length xs) n some (omega arith) in
    let all : n * length xs / n ≡ length xs = mul-div_cancel_left (length xs) some in
    omega arith

pub block_within : {X : Type 0} (rank n : ℕ) (xs : List X) → rank < n → (begins_at rank n xs ≤ begins_at (rank + 1) n xs) × (begins_at (rank + 1) n xs ≤ length xs)
block_within rank n xs low = (
  le-div (begins_at rank n xs) ((rank + 1) * length xs) n (omega arith) (grind (arith, div-mul-le_self (rank * length xs) n)),
  begins_within (rank + 1) n xs (omega arith) (omega arith),
)
