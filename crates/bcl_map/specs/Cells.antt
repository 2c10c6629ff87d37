-- What a place is: free, in use with a whole content, or in use while one rank writes its content.
-- In each of the latter two the state has the place's key.
use Rattle.std.specs.Prelude.{◌≢◌, ℕ, ◌+◌, ◌*◌, List, [], ◌∷◌, slice_index_or}
use mathlib.Core.Option.{Option, none, some}
use Rattle.bcl_map.specs.declared.shape.Shape.{Shape}
use Rattle.bcl_map.specs.declared.note.Lock.{Lock}
use Rattle.bcl_map.specs.declared.note.Lock.TheVariants.{Shown as shown, Reserved as reserved, Held as held}
use Rattle.bcl_map.specs.declared.note.Before.{Before}
use Rattle.bcl_map.specs.Map.{Words, home}

pub data Cell : Type 0 where
  free : Cell
  kept : Words → Cell
  -- the lock, the rank that writes, the key, the value before if there was one, the value in the state, and how many words of the content are put
  busy : Lock → ℕ → Words → Before → Words → ℕ → Cell

abbrev pub key_of : Cell → Option Words
key_of free = none
key_of (kept k) = some k
key_of (busy l q k old v n) = some k

abbrev pub used : Cell → ℕ
used free = 0
used (kept k) = 1
used (busy l q k old v n) = 1

-- the place is in use by another key
abbrev pub Bars : Words → Cell → Type 0
Bars k free = ⊥
Bars k (kept o) = o ≢ k
Bars k (busy l q o old v n) = o ≢ k

-- the place is in use and not reserved: where ranks insert any key, its key is whole
abbrev pub IsSettled : Cell → Type 0
IsSettled free = ⊥
IsSettled (kept k) = Unit {0}
IsSettled (busy l q k old v n) = l ≢ reserved

abbrev pub filled : List Cell → ℕ
filled [] = 0
filled (c ∷ cs) = used c + filled cs

abbrev pub at : List Cell → ℕ → Cell
at cells i = slice_index_or cells i free

abbrev pub lock_word : Lock → ℕ
lock_word shown = 2
lock_word reserved = 1
lock_word held = 3

-- the control word, with so many readers
abbrev pub control : Shape → ℕ → Cell → ℕ
control L readers free = 0
control L readers (kept k) = 2 + home L k * 256 + readers * 65536
control L readers (busy l q k old v n) = lock_word l + home L k * 256
