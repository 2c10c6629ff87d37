-- A map without pairs.
use Rattle.std.proofs.Common.{◌≡◌, ℕ, zero, suc, ◌+◌, ◌*◌, List, [], ◌∷◌, length, replicate, get_or, slice_index, refl, sym, ap, ◌∙◌, subst, arith, Some, None}
use Rattle.std.proofs.Math.Nat.{mul_assoc, mul_comm}
use Rattle.std.specs.Prelude.{Bool}
use Rattle.std.proofs.lemmas.List.{length-replicate}
use mathlib.Core.Option.{some-ne-none}
use Rattle.bcl_map.specs.declared.shape.Shape.{Shape}
use Rattle.bcl_map.specs.Map.{places, Words, size}
use Rattle.bcl_map.specs.Cells.{Cell, free, key_of, filled}
use Rattle.bcl_map.specs.Fits.{PlaceOk, Holds}

none_filled : (n : ℕ) → filled (replicate n free) ≡ 0
none_filled zero = refl
none_filled (suc n) = let e = none_filled n in omega arith

all_free : (n i : ℕ) → get_or (replicate n free) i free ≡ free
all_free zero i = refl
all_free (suc n) zero = refl
all_free (suc n) (suc i) = all_free n i

zeros : (n i : ℕ) → slice_index (replicate n 0) i ≡ 0
zeros zero i = refl
zeros (suc n) zero = refl
zeros (suc n) (suc i) = zeros n i

-- the words of all segments
pub many : (ranks per_rank a b kw vw : ℕ) → a ≡ kw → b ≡ vw → ranks * (per_rank * (1 + (a + b))) ≡ size kw vw * (ranks * per_rank)
many ranks per_rank a b kw vw key value = ap (λ (z : ℕ × ℕ). ranks * (per_rank * (1 + (z.0 + z.1)))) (λ i. (key i, value i))
    ∙ (sym (mul_assoc ranks per_rank (1 + (kw + vw))) ∙ mul_comm (ranks * per_rank) (1 + (kw + vw)))

none_there : (k v : Words) → None ≡ Some v → ⊥
none_there k v e = cc

pub empty : (kw vw : ℕ) (key value : List ℕ → Bool) (L : Shape) (n : ℕ) (words : List ℕ) → words ≡ replicate n 0 → n ≡ size kw vw * places L → Holds kw vw key value L 0 words [] []
empty kw vw key value L n words is many = record {
  places = record {
    cells = replicate (places L) free;
    room = length-replicate (places L) free;
    wide = ap length is ∙ (length-replicate n 0 ∙ many);
    few = omega arith;
    as_many = none_filled (places L);
    each = λ i below. subst (Place i) (sym (all_free (places L) i)) (record { shows = ap (λ (l : List ℕ). slice_index l (size kw vw * i + 0)) is ∙ zeros n (size kw vw * i + 0); read = refl; content = tt });
    once = λ i j k one other. absurd (some-ne-none k (sym one ∙ ap key_of (all_free (places L) i)));
    placed = λ k has. absurd (none_there k has.0 has.1);
    single = λ r x e. absurd (some-ne-none x (sym e));
    noted = λ r x e. absurd (some-ne-none x (sym e));
  };
  typed = λ k v e. absurd (none_there k v e);
}
  where
    Place : ℕ → Cell → Type 0
    Place i c = PlaceOk kw vw L 0 words [] [] i c
