-- What an addition to an even number is answered.
-- Each word of the tally is an object of its own.
use Rattle.std.specs.Prelude.{◌≡◌, ◌≢◌, ℕ, ◌+◌, ◌%◌, List, [], ◌∷◌}
use Rattle.bcl_event.specs.History.{event}
use Rattle.bcl_phase.specs.declared.view.View.{View}
use Rattle.bcl_phase.specs.Stands as phase
use Rattle.bcl_phase.specs.Stands.{Still}
use Rattle.bcl_phase.specs.Found.{HasLooked}
use Rattle.bcl_tally.specs.declared.tally.Call.{Call}
use Rattle.bcl_tally.specs.declared.tally.Call.TheVariants.{Add}
use Rattle.bcl_tally.specs.declared.tally.Reply.{Reply}
use Rattle.bcl_tally.specs.declared.tally.Reply.TheVariants.{Was}
use Rattle.bcl_tally.specs.declared.tally.Note.{Note}
use Rattle.bcl_tally.specs.declared.tally.Note.TheVariants.{Rest}
use Rattle.bcl_tally.specs.declared.guarded.Seen.{Seen}
use Rattle.bcl_tally.specs.declared.guarded.TryAdd.{TryAdd}
use Rattle.bcl_tally.specs.declared.guarded.TryAdd.TheVariants.{Added, Busy}
use Rattle.bcl_tally.specs.Tally.{ranks, start, next, permits}
use Rattle.bcl_tally.specs.Calls.{Makes}

-- why a try at a place was answered Busy
pub record IsBusy (place : ℕ) (seen : Seen) (old new : View Call Reply Note ℕ) : Type 0 where
  pub still : Still old new
  pub looked : seen.first ≡ seen.second → HasLooked 1 ((place, seen.first) ∷ []) old new
  pub none : seen.first ≡ seen.second → new.atomics ≡ old.atomics
  pub shows : seen.first ≡ seen.second → seen.first % 2 ≡ 1
  pub lost : seen.first ≢ seen.second → HasLooked 1 ((place, seen.first) ∷ (place, seen.second) ∷ []) old new
  pub one : seen.first ≢ seen.second → new.atomics ≡ old.atomics + 1

-- a number that a try at a place found even was added to
pub record IsAdded (k place n was : ℕ) (old new : View Call Reply Note ℕ) : Type 0 where
  pub stands : phase.Stands ranks start next permits k old new (event old.rank (Add place n) (Was was) ∷ [])
  pub even : was % 2 ≡ 0
  pub looked : HasLooked 1 ((place, was) ∷ []) old new
  pub one : new.atomics ≡ old.atomics + 1

-- what became of a try
abbrev pub Tried : ℕ → ℕ → ℕ → View Call Reply Note ℕ → View Call Reply Note ℕ → TryAdd → Type 0
Tried k place n old new (Added was) = IsAdded k place n was old new
Tried k place n old new (Busy seen) = IsBusy place seen old new

-- an exchange of a number for a sum, won where it is the number got
abbrev pub Exchanges : Call → ℕ → ℕ → List ℕ → List Call → Note → Type 0
Exchanges c got m t did y = (m ≡ got → Makes c (Was m) Rest t did y) × (m ≢ got → (did ≡ []) × (y ≡ Rest))
