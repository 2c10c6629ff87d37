-- What a contract sees of a filter that one caller steps: the number of its blocks, and the bits of some of them.
-- It is right for each list of keys whose marks it has.
use Rattle.std.specs.Prelude.{◌≡◌, ℕ, ◌%◌, ◌==◌, List, Bool, ◌&&◌, ◌||◌, unwrap_or}
use Rattle.std.specs.List.{list_all, list_any}
use Rattle.std.specs.Int.{bit_at}
use Rattle.std.specs.Ordering.{nat_cmp}
use Rattle.std.specs.Map.{lookup}
use Rattle.std.specs.BTreeMap.{is_at}
use Rattle.bcl_event.specs.Filter.{Mark, four_bits, is_marked, presence}
use Rattle.bcl_event.specs.declared.filter.FilterCall.{FilterCall}
use Rattle.bcl_event.specs.declared.filter.FilterCall.TheVariants.{Insert, Find}
use Rattle.bcl_event.specs.declared.filter.FilterReply.{FilterReply}

-- a block that isn't named has no bits
pub record Marked : Type 0 where
  pub blocks : ℕ
  pub bits : List (ℕ × ℕ)

abbrev pub bits_at : ℕ → List (ℕ × ℕ) → ℕ
bits_at block bits = unwrap_or (lookup (is_at (nat_cmp block)) bits) 0

abbrev pub has_bit : ℕ → ℕ → Bool
has_bit bits bit = bit_at bits bit == 1

-- a filter has just the marks of these keys
abbrev pub HoldsMarks : ℕ → Marked → List (List ℕ) → Type 0
HoldsMarks width it keys = (mark : Mark) → has_bit (bits_at mark.block it.bits) mark.bit ≡ is_marked it.blocks width keys mark

-- what is answered to a key that has this hash
abbrev pub answer_at : ℕ → Marked → FilterReply
answer_at h it = presence (list_all (has_bit (bits_at (h % it.blocks) it.bits)) (four_bits h))

-- a filter has the marks of a hash besides those that it had
abbrev pub Marks : ℕ → Marked → Marked → Type 0
Marks h old new = (mark : Mark) → has_bit (bits_at mark.block new.bits) mark.bit ≡ (((mark.block == h % old.blocks) && list_any (λ bit. mark.bit == bit) (four_bits h)) || has_bit (bits_at mark.block old.bits) mark.bit)

abbrev pub IsInsert : {K : Type 0} → FilterCall K → Type 0
IsInsert (Insert key) = Unit {0}
IsInsert (Find key) = ⊥
