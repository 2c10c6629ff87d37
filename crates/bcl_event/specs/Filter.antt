-- The filter: keys, each known by four marks.
-- Its state is the list of the keys that were inserted.
use Rattle.std.specs.Prelude.{ℕ, ◌/◌, ◌%◌, ◌^◌, ◌==◌, List, [], ◌∷◌, Bool, ◌&&◌, map, take, if◌then◌else◌}
use Rattle.std.specs.List.{list_all, list_any}
use Rattle.bcl_words.specs.Hash.{hash_of}
use Rattle.bcl_event.specs.declared.filter.FilterCall.{FilterCall}
use Rattle.bcl_event.specs.declared.filter.FilterCall.TheVariants.{Insert, Find}
use Rattle.bcl_event.specs.declared.filter.FilterReply.{FilterReply}
use Rattle.bcl_event.specs.declared.filter.FilterReply.TheVariants.{Present, NotPresent}

-- a bit of a block of 64
pub record Mark : Type 0 where
  pub block : ℕ
  pub bit : ℕ

abbrev pub is_mark : Mark → Mark → Bool
is_mark a b = (a.block == b.block) && (a.bit == b.bit)

-- the four bits of a hash
abbrev pub four_bits : ℕ → List ℕ
four_bits h = h / 2 ^ 58 % 64 ∷ h / 2 ^ 52 % 64 ∷ h / 2 ^ 46 % 64 ∷ h / 2 ^ 40 % 64 ∷ []

abbrev pub presence : Bool → FilterReply
presence present = if present then Present else NotPresent

-- the marks of a key that has so many words of its own, in a filter of so many blocks
module _ (blocks width : ℕ) where
  abbrev pub marks_of : List ℕ → List Mark
  marks_of key = let h = hash_of (take width key) in map (λ bit. record { block = h % blocks; bit = bit }) (four_bits h)

  -- whether it is a mark of some key
  abbrev pub is_marked : List (List ℕ) → Mark → Bool
  is_marked keys mark = list_any (λ key. list_any (is_mark mark) (marks_of key)) keys

  -- whether each mark of the key is a mark of some key
  abbrev pub is_present : List (List ℕ) → List ℕ → Bool
  is_present keys key = list_all (is_marked keys) (marks_of key)

  -- the reply to a call, and the state that it leaves
  abbrev pub filter_step : List (List ℕ) → FilterCall (List ℕ) → FilterReply × List (List ℕ)
  filter_step keys (Insert key) = (presence (is_present keys key), key ∷ keys)
  filter_step keys (Find key) = (presence (is_present keys key), keys)

-- a call at its words
module _ {K : Type 0} (words : K → List ℕ) where
  abbrev pub filter_call : FilterCall K → FilterCall (List ℕ)
  filter_call (Insert key) = Insert (words key)
  filter_call (Find key) = Find (words key)
