-- What the calls of a tally say, of its home and its passes.
use Rattle.std.specs.Prelude.{◌≡◌, ℕ, List, [], ◌∷◌, slice_index, Some}
use Rattle.bcl_event.specs.declared.event.Event.{Event}
use Rattle.bcl_event.specs.History.{state_after}
use Rattle.bcl_phase.specs.declared.view.View.{View}
use Rattle.bcl_phase.specs.Stands as phase
use Rattle.bcl_tally.specs.declared.tally.Call.{Call}
use Rattle.bcl_tally.specs.declared.tally.Reply.{Reply}
use Rattle.bcl_tally.specs.declared.tally.Note.{Note}
use Rattle.bcl_tally.specs.declared.tally.Note.TheVariants.{Got}
use Rattle.bcl_tally.specs.Tally.{ranks, start, next, permits}

-- the numbers that a history leaves
abbrev pub numbers : ℕ → List (Event Call Reply) → List ℕ
numbers k history = state_after (next k) (start k) history

-- a home that knows its words, in which this number is at the place, and which are those that it knew before if it knew any
abbrev pub Knows : View Call Reply Note ℕ → View Call Reply Note ℕ → ℕ → ℕ → Type 0
Knows old new place n = (ws : List ℕ) × (new.words ≡ Some ws) × ((vs : List ℕ) → old.words ≡ Some vs → ws ≡ vs) × (n ≡ slice_index ws place)

abbrev pub Ran : ℕ → View Call Reply Note ℕ → View Call Reply Note ℕ → List (Event Call Reply) → Type 0
Ran k old new es = phase.Ran ranks start next permits k old new es

abbrev pub Goes : ℕ → View Call Reply Note ℕ → View Call Reply Note ℕ → Type 0
Goes k old new = phase.Goes ranks permits k old new

-- a step that makes these calls in the state t, the last of them answered so, and leaves this note
abbrev pub Makes : Call → Reply → Note → List ℕ → List Call → Note → Type 0
Makes c a note t did y = (did ≡ c ∷ []) × ((next 0 t c).0 ≡ a) × (y ≡ note)

-- a step that makes no call, and leaves the number found in flight
abbrev pub Gets : ℕ → List ℕ → List Call → Note → Type 0
Gets n t did y = (did ≡ []) × (y ≡ Got n)
