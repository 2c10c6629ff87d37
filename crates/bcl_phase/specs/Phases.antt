-- How a phase begins and ends, of the views of the home, of the lead and of the passes.
-- The history as the phase begins is what the home has seen, and the history as it ends what the home has seen then.
use Rattle.std.specs.Prelude.{◌≡◌, ℕ, ◌≤◌, List, [], ◌++◌, Some, None, false}
use Rattle.std.specs.List.{All}
use mathlib.Core.List.{IsPrefix}
use Rattle.bcl_event.specs.declared.event.Event.{Event}
use Rattle.bcl_event.specs.History.{of, IsLegal}
use Rattle.bcl_phase.specs.declared.view.View.{View}
use Rattle.bcl_phase.specs.declared.view.Role.TheVariants.{Pass}
use Rattle.bcl_phase.specs.Rule.{IsPermitted}

module _ {C A X K : Type 0} where
  -- the pass of a rank as a phase begins: it has seen the history, no step is counted, no word is found, and no call is in flight
  abbrev pub begun : X → ℕ → K → List (Event C A) → ℕ → View C A X K
  begun rest promise key history rank = record { role = Pass; key = Some key; rank = rank; promise = promise; seen = history; mine = of rank history; gets = 0; puts = 0; atomics = 0; found = []; note = rest; passes = 0; start = []; back = []; words = None; loose = false }

  -- what the home of the end knows of the pass of a rank
  pub record Returned (start history : List (Event C A)) (rank : ℕ) (pass : View C A X K) : Type 0 where
    pub knew : IsPrefix start pass.seen
    pub within : IsPrefix pass.seen history
    pub own : of rank history ≡ pass.mine

module _ {C A K T : Type 0} (ranks : K → ℕ) (start : K → T) (next : K → T → C → A × T) (permits : K → ℕ → ℕ → C → Type 0) where
  -- what the home of the end knows of a phase under this promise, which began with this history
  pub record Ended (key : K) (promise : ℕ) (before history : List (Event C A)) : Type 0 where
    pub legal : IsLegal (next key) (start key) history
    pub named : All (λ e. e.rank ≤ ranks key) history
    pub late : List (Event C A)
    pub since : history ≡ before ++ late
    pub permitted : All (IsPermitted ranks permits key promise) late
    pub home : of (ranks key) history ≡ of (ranks key) before
