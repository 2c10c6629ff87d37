-- What a closed map has: the pairs that stand in its words, in the order of the buckets.
-- Its book is the history that its home has seen, and its contents are the state after the book.
use Rattle.std.specs.Prelude.{◌≡◌, ℕ, zero, suc, ◌+◌, ◌*◌, ◌-◌, ◌==◌, List, [], ◌∷◌, ◌++◌, map, take, drop, replicate, if◌then◌else◌, Some, None}
use mathlib.Core.Option.{some}
use lib.ListN.{get_elem?}
use Rattle.bcl_event.specs.History.{state_after}
use Rattle.bcl_event.specs.Map.{Pairs, value_at}
use Rattle.bcl_phase.specs.Views.{words_of}
use Rattle.bcl_map.specs.declared.shape.Shape.{Shape}
use Rattle.bcl_map.specs.Map.{Words, places, first_pairs, next, size, word}
use Rattle.bcl_map.specs.Calls.{MapView}

-- the object whose own words, so many, stand from one word on
abbrev pub object : ℕ → List ℕ → ℕ → Words
object width ws from = take width (drop from ws) ++ replicate (8 - width) 0

module _ (kw vw : ℕ) where
  -- the key and the value of a place
  abbrev pub pair_at : List ℕ → ℕ → Words × Words
  pair_at ws i = (object kw ws (size kw vw * i + 1), object vw ws (size kw vw * i + (1 + kw)))

  -- the pairs of the first places, in their order
  abbrev pub pairs_to : List ℕ → ℕ → Pairs
  pairs_to ws zero = []
  pairs_to ws (suc i) = if word kw vw ws i 0 == 0 then pairs_to ws i else pairs_to ws i ++ pair_at ws i ∷ []

-- entries as their words
abbrev pub in_words : {K V : Type 0} → (K → Words) → (V → Words) → List (K × V) → Pairs
in_words key value entries = map (λ e. (key e.0, value e.1)) entries

-- the state of a map after a history
abbrev pub contents : (Words → Words → Words) → Shape → MapView → Pairs
contents op shape view = state_after (next op shape) (first_pairs shape) view.seen

-- the entries are the replay of the book: all its pairs, as they stand in the words
pub record IsReplay (kw vw : ℕ) (op : Words → Words → Words) (view : MapView) (entries : Pairs) : Type 0 where
  pub of_map : view.key ≡ None → ⊥
  pub each : (shape : Shape) → view.key ≡ Some shape → (k : Words) → value_at k entries ≡ value_at k (contents op shape view)
  pub order : (shape : Shape) → view.key ≡ Some shape → entries ≡ pairs_to kw vw (words_of view) (places shape)

-- no key stands in two of them
abbrev pub IsOnce : Pairs → Type 0
IsOnce entries = (i j : ℕ) (k v w : Words) → get_elem? entries i ≡ some (k, v) → get_elem? entries j ≡ some (k, w) → i ≡ j
