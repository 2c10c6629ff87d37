-- Histories: lists of events, in the order in which the calls took effect.
-- `next` is the sequential object: the reply to a call in a state, and the state after it.
use Rattle.std.specs.Prelude.{◌≡◌, ℕ, ◌==◌, List, [], ◌∷◌}
use Rattle.std.specs.List.{filter}
use Rattle.bcl_event.specs.declared.event.Event.{Event}

module _ {C R : Type 0} where
  abbrev pub event : ℕ → C → R → Event C R
  event r c a = record { rank = r; call = c; reply = a }

  -- the events of a rank, in order
  abbrev pub of : ℕ → List (Event C R) → List (Event C R)
  of r history = filter (λ e. e.rank == r) history

  module _ {S : Type 0} (next : S → C → R × S) where
    -- the state that the calls of a history leave
    abbrev pub state_after : S → List (Event C R) → S
    state_after s [] = s
    state_after s (e ∷ history) = state_after (next s e.call).1 history

    -- each reply is the one that the object gives in the state of the events before it
    abbrev pub IsLegal : S → List (Event C R) → Type 0
    IsLegal s [] = Unit {0}
    IsLegal s (e ∷ history) = (e.reply ≡ (next s e.call).0) × IsLegal (next s e.call).1 history

    -- the events of a rank that makes these calls side by side, in a state
    abbrev pub events : ℕ → S → List C → List (Event C R)
    events r s [] = []
    events r s (c ∷ calls) = event r c (next s c).0 ∷ events r (next s c).1 calls

    -- the state that these calls leave
    abbrev pub state_by : S → List C → S
    state_by s [] = s
    state_by s (c ∷ calls) = state_by (next s c).1 calls
