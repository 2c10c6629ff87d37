-- What a call leaves of a pass, said of its view before and after: the definitions that the contracts of every container cite.
-- The call stands in the history with its events, behind all that the pass had seen.
use Rattle.std.specs.Prelude.{◌≡◌, ℕ, ◌≤◌, List, [], ◌∷◌, ◌++◌, length, ◌⊎◌}
use Rattle.std.specs.List.{All}
use mathlib.Core.List.{IsPrefix}
use Rattle.bcl_event.specs.declared.event.Event.{Event}
use Rattle.bcl_event.specs.History.{of, IsLegal}
use Rattle.bcl_phase.specs.declared.view.View.{View}
use Rattle.bcl_phase.specs.Rule.{IsPermitted}

module _ {C A X K : Type 0} where
  -- a pass of the same rank, container and promise, whose counts have not fallen, and which has found what it had found
  pub record GoesOn (old new : View C A X K) : Type 0 where
    pub same_role : new.role ≡ old.role
    pub same_key : new.key ≡ old.key
    pub same_rank : new.rank ≡ old.rank
    pub same_promise : new.promise ≡ old.promise
    pub gets_rise : old.gets ≤ new.gets
    pub puts_rise : old.puts ≤ new.puts
    pub atomics_rise : old.atomics ≤ new.atomics
    pub found_rises : length old.found ≤ length new.found

  -- steps that make no call
  pub record Still (old new : View C A X K) : Type 0 where
    pub seen : new.seen ≡ old.seen
    pub mine : new.mine ≡ old.mine
    pub same : GoesOn old new

module _ {C A X K : Type 0} (ranks : K → ℕ) (permits : K → ℕ → ℕ → C → Type 0) where
  -- what the pass has come to see: events that the promise permits, of whichever rank
  pub record Sees (k : K) (old new : View C A X K) : Type 0 where
    pub late : List (Event C A)
    pub grows : new.seen ≡ old.seen ++ late
    pub permitted : All (IsPermitted ranks permits k old.promise) late

  -- any number of calls
  pub record Goes (k : K) (old new : View C A X K) : Type 0 where
    pub same : GoesOn old new
    pub sees : Sees k old new
    pub mine : IsPrefix old.mine new.mine

module _ {C A X K T : Type 0} (start : K → T) (next : K → T → C → A × T) where
  -- the last of these events is the last that the pass has seen, which is legal
  pub record EndsWith (k : K) (new : View C A X K) (es : List (Event C A)) : Type 0 where
    pub legal : IsLegal (next k) (start k) new.seen
    pub own : of new.rank new.seen ≡ new.mine
    pub front : List (Event C A)
    pub before : List (Event C A)
    pub last : Event C A
    pub all : es ≡ front ++ last ∷ []
    pub seen : new.seen ≡ before ++ last ∷ []

module _ {C A X K T : Type 0} (ranks : K → ℕ) (start : K → T) (next : K → T → C → A × T) (permits : K → ℕ → ℕ → C → Type 0) where
  -- calls with these events, side by side and the last that the pass has seen; with no event it has seen nothing more
  pub record Stands (k : K) (old new : View C A X K) (es : List (Event C A)) : Type 0 where
    pub legal : IsLegal (next k) (start k) new.seen
    pub before : List (Event C A)
    pub last : new.seen ≡ before ++ es
    pub behind : IsPrefix old.seen before
    pub none : es ≡ [] → new.seen ≡ old.seen
    pub mine : new.mine ≡ old.mine ++ es
    pub own : of new.rank new.seen ≡ new.mine
    pub same : GoesOn old new
    pub sees : Sees ranks permits k old new

  -- any number of calls, with these events, between which events of other ranks may stand; without a call it has seen nothing more
  pub record Ran (k : K) (old new : View C A X K) (es : List (Event C A)) : Type 0 where
    pub made : ((es ≡ []) × (new.seen ≡ old.seen)) ⊎ EndsWith start next k new es
    pub mine : new.mine ≡ old.mine ++ es
    pub same : GoesOn old new
    pub sees : Sees ranks permits k old new
