-- What a step tells the seat that makes it, of its view before and after.
-- Each step tells how the view has changed; and of the history as it was, the calls that the step makes there.
use Rattle.std.specs.Prelude.{◌≡◌, ℕ, ◌≤◌, List, [], ◌++◌, length, slice_index, slice_set, Some, false, Result, Ok, Err}
use Rattle.std.specs.List.{All}
use mathlib.Core.Option as plain
use mathlib.Core.List.{IsPrefix}
use lib.ListN.{get_elem?}
use Rattle.bcl_event.specs.declared.event.Event.{Event}
use Rattle.bcl_event.specs.History.{of, state_after, IsLegal, events}
use Rattle.bcl_phase.specs.declared.view.View.{View}
use Rattle.bcl_phase.specs.Views.{Tick, put, loosened, loose_after, gets_after, puts_after, atomics_after, seen_by, gone_on, one_more}
use Rattle.bcl_phase.specs.Rule.{IsPermitted, IsBack}

-- the words found, once an exchange at this word has this result
abbrev pub tried : List (ℕ × ℕ) → ℕ → Result ℕ ℕ → List (ℕ × ℕ)
tried found word (Ok n) = found
tried found word (Err n) = one_more found word n

module _ {C A X K T : Type 0} (ranks : K → ℕ) (start : K → T) (next : K → T → C → A × T) (permits : K → ℕ → ℕ → C → Type 0) where
  -- of any step of a pass, by its kind
  pub record Took (k : K) (tick : Tick) (v w : View C A X K) : Type 0 where
    pub same_role : w.role ≡ v.role
    pub same_key : w.key ≡ v.key
    pub same_rank : w.rank ≡ v.rank
    pub same_promise : w.promise ≡ v.promise
    pub gets_rise : w.gets ≡ gets_after tick v.gets
    pub puts_rise : w.puts ≡ puts_after tick v.puts
    pub atomics_rise : w.atomics ≡ atomics_after tick v.atomics
    pub found_rises : length v.found ≤ length w.found
    pub legal : IsLegal (next k) (start k) w.seen
    pub own : of w.rank w.seen ≡ w.mine
    pub late : List (Event C A)
    pub grows : w.seen ≡ v.seen ++ late
    pub permitted : All (IsPermitted ranks permits k v.promise) late

  -- what a home that no pass is out of knows at the end of a phase
  pub record Ends (k : K) (v : View C A X K) : Type 0 where
    pub legal : IsLegal (next k) (start k) v.seen
    pub named : All (λ e. e.rank ≤ ranks k) v.seen
    pub late : List (Event C A)
    pub since : v.seen ≡ v.start ++ late
    pub permitted : All (IsPermitted ranks permits k v.promise) late
    pub own : of (ranks k) v.seen ≡ of (ranks k) v.start
    pub returned : (i : ℕ) (p : List (Event C A) × List (Event C A)) → get_elem? v.back i ≡ plain.some p → IsBack v v.seen i p

module _ {C A X K T : Type 0} (start : K → T) (next : K → T → C → A × T) where
  -- of a step of a pass: the history as it was, the calls that the step makes, and that `then` holds of the number found, of the state, of these calls and of the note after
  pub record Told (k : K) (v : View C A X K) (then : ℕ → T → List C → X → Type 0) (n : ℕ) (w : View C A X K) : Type 0 where
    pub history : List (Event C A)
    pub did : List C
    pub known : IsPrefix v.seen history
    pub fact : then n (state_after (next k) (start k) history) did w.note
    pub seen : w.seen ≡ seen_by v.seen history (events (next k) v.rank (state_after (next k) (start k) history) did)
    pub mine : w.mine ≡ v.mine ++ events (next k) v.rank (state_after (next k) (start k) history) did

module _ {C A X K T : Type 0} (start : K → T) (next : K → T → C → A × T) (fits : K → ℕ → List ℕ → T → List X → Type 0) where
  -- of a step of the home, as the word i becomes f of what it was: the words as they were, which fit, and the number there; the calls that the step makes, and that `then` holds of this number, of the state and of these calls
  pub record HomeTold (k : K) (tick : Tick) (v : View C A X K) (i : ℕ) (f : ℕ → ℕ) (then : ℕ → T → List C → Type 0) (n : ℕ) (w : View C A X K) : Type 0 where
    pub words : List ℕ
    pub known : (ws : List ℕ) → v.words ≡ Some ws → words ≡ ws
    pub fit : fits k 0 words (state_after (next k) (start k) v.seen) []
    pub found : f n ≡ f (slice_index words i)
    pub did : List C
    pub fact : then n (state_after (next k) (start k) v.seen) did
    pub after : w ≡ gone_on tick v (events (next k) v.rank (state_after (next k) (start k) v.seen) did) (slice_set words i (f (slice_index words i)))
    pub legal : IsLegal (next k) (start k) w.seen

  -- of two puts of the home that belong together: the words as they were, which fit, the calls that the second makes, and that `then` holds of the state and of these calls
  pub record PairTold (k : K) (v : View C A X K) (i n j m : ℕ) (then : T → List C → Type 0) (w : View C A X K) : Type 0 where
    pub words : List ℕ
    pub known : (ws : List ℕ) → v.words ≡ Some ws → words ≡ ws
    pub fit : fits k 0 words (state_after (next k) (start k) v.seen) []
    pub did : List C
    pub fact : then (state_after (next k) (start k) v.seen) did
    pub after : w ≡ record (gone_on put (loose_after put (slice_set words i n) (loosened words v)) (events (next k) v.rank (state_after (next k) (start k) v.seen) did) (slice_set (slice_set words i n) j m)) { loose = false }
    pub legal : IsLegal (next k) (start k) w.seen
