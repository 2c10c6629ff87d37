-- How the words of a map, its state and the notes fit: a fact of each place, of each note, and of the whole.
use Rattle.std.specs.Prelude.{◌≡◌, ℕ, ◌+◌, ◌*◌, ◌<◌, ◌≤◌, List, Bool, true, length, slice_index, Some}
use mathlib.Core.Option.{some}
use lib.ListN.{get_elem?}
use Rattle.bcl_words.specs.Words.{IsWords}
use Rattle.bcl_map.specs.declared.shape.Shape.{Shape}
use Rattle.bcl_event.specs.Map.{Pairs, value_at}
use Rattle.bcl_map.specs.Map.{places, Words, owning, filling, HasPlace, home, path, size, word, Lies, content}
use Rattle.bcl_map.specs.Cells.{Cell, free, kept, busy, key_of, used, filled, at, control}
use Rattle.bcl_map.specs.declared.note.Lock.{Lock}
use Rattle.bcl_map.specs.declared.note.Lock.TheVariants.{Shown as shown, Reserved as reserved, Held as held}
use Rattle.bcl_map.specs.declared.note.Before.{Before}
use Rattle.bcl_map.specs.declared.note.Before.TheVariants.{Nothing, Value as before}
use Rattle.bcl_map.specs.Notes.{grips, Note, Has, reads_all, readers, AllSay}

module _ (kw vw : ℕ) (L : Shape) where
  -- under which promise a rank writes so
  abbrev pub MayWrite : ℕ → Lock → ℕ → Words → ℕ → Type 0
  MayWrite p shown q k n = (p ≡ owning) × (home L k ≡ q)
  MayWrite p reserved q k n = p ≡ filling
  MayWrite p held q k n = (p ≡ filling) × (kw ≤ n)

  -- from the word n on the content is still the one before
  abbrev pub Behind : List ℕ → ℕ → Words → Before → ℕ → Type 0
  Behind ws i k Nothing n = Unit {0}
  Behind ws i k (before old) n = (b : ℕ) → n ≤ b → b < kw + vw → word kw vw ws i (1 + b) ≡ slice_index (content kw vw k old) b

  -- the note of the rank says that it writes the place
  pub record Named (notes : List Note) (q i : ℕ) (l : Lock) (k : Words) (old : Before) (v : Words) (n : ℕ) : Type 0 where
    pub note : Note
    pub there : get_elem? notes q ≡ some note
    pub says : Has (grips i l k old v n) note.claims

  -- a value of the state, of the width of values
  abbrev pub HasValue : Pairs → Words → Words → Type 0
  HasValue t k v = IsWords kw k × IsWords vw v × (value_at k t ≡ Some v)

  abbrev pub IsContent : ℕ → List ℕ → Pairs → List Note → ℕ → Cell → Type 0
  IsContent p ws t notes i free = Unit {0}
  IsContent p ws t notes i (kept k) = (v : Words) × HasValue t k v × Lies kw vw ws i (content kw vw k v) (kw + vw)
  IsContent p ws t notes i (busy l q k old v n) = HasValue t k v × Lies kw vw ws i (content kw vw k v) n × (n ≤ kw + vw) × Behind ws i k old n × MayWrite p l q k n × Named notes q i l k old v n

  -- readers are there only where the content is whole
  abbrev pub MayBeRead : ℕ → Cell → Type 0
  MayBeRead n free = n ≡ 0
  MayBeRead n (kept k) = Unit {0}
  MayBeRead n (busy l q k old v m) = n ≡ 0

  pub record PlaceOk (p : ℕ) (ws : List ℕ) (t : Pairs) (notes : List Note) (i : ℕ) (c : Cell) : Type 0 where
    pub shows : word kw vw ws i 0 ≡ control L (readers i notes) c
    pub read : MayBeRead (readers i notes) c
    pub content : IsContent p ws t notes i c

  -- the key has its place on its path, behind places that are in use
  pub record Placed (cells : List Cell) (k : Words) : Type 0 where
    pub d : ℕ
    pub within : d < places L
    pub there : key_of (at cells (path L k d)) ≡ some k
    pub before : (e : ℕ) → e < d → used (at cells (path L k e)) ≡ 1

  pub record Fits (p : ℕ) (ws : List ℕ) (t : Pairs) (notes : List Note) : Type 0 where
    pub cells : List Cell
    pub room : length cells ≡ places L
    pub wide : length ws ≡ size kw vw * places L
    pub few : length notes ≤ L.ranks
    pub as_many : filled cells ≡ length t
    pub each : (i : ℕ) → i < places L → PlaceOk p ws t notes i (at cells i)
    pub once : (i j : ℕ) (k : Words) → key_of (at cells i) ≡ some k → key_of (at cells j) ≡ some k → i ≡ j
    pub placed : (k : Words) → HasPlace k t → Placed cells k
    pub single : (r : ℕ) (x : Note) → get_elem? notes r ≡ some x → (i : ℕ) → reads_all i x.claims ≤ 1
    pub noted : (r : ℕ) (x : Note) → get_elem? notes r ≡ some x → AllSay L p t cells r x.claims

abbrev pub fits : ℕ → ℕ → Shape → ℕ → List ℕ → Pairs → List Note → Type 0
fits kw vw L p ws t notes = Fits kw vw L p ws t notes

-- each pair of the state is a key and a value of their types
abbrev pub AreTyped : (List ℕ → Bool) → (List ℕ → Bool) → Pairs → Type 0
AreTyped key value t = (k v : Words) → value_at k t ≡ Some v → (key k ≡ true) × (value v ≡ true)

-- the map's own rule
pub record Holds (kw vw : ℕ) (key value : List ℕ → Bool) (L : Shape) (p : ℕ) (ws : List ℕ) (t : Pairs) (notes : List Note) : Type 0 where
  pub places : Fits kw vw L p ws t notes
  pub typed : AreTyped key value t
