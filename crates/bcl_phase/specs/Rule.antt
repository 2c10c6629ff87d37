-- The rule that the words of every container keep: one history, of which each seat knows a beginning.
-- The container adds what its words mean: its sequential object, what a promise permits, and how words, state and calls in flight fit.
use Rattle.std.specs.Prelude.{◌≡◌, ℕ, ◌+◌, ◌<◌, ◌≤◌, ◌^◌, List, [], ◌∷◌, ◌++◌, length, slice_index, slice_set, Some, Option, true, false}
use Rattle.std.specs.List.{All}
use mathlib.Core.Option as plain
use mathlib.Core.List.{IsPrefix}
use lib.ListN.{get_elem?}
use Rattle.atomic_table.specs.Table.{State}
use Rattle.bcl_event.specs.declared.event.Event.{Event}
use Rattle.bcl_event.specs.History.{of, state_after, IsLegal, state_by}
use Rattle.bcl_phase.specs.declared.view.View.{View}
use Rattle.bcl_phase.specs.declared.view.Role.TheVariants.{Home, Pass}

module _ {C A X K : Type 0} where
  -- what a live pass knows of the history
  abbrev pub IsLive : K → View C A X K → List (Event C A) → View C A X K → Type 0
  IsLive key home history v = (v.key ≡ Some key) × (v.rank < home.passes) × (v.promise ≡ home.promise) × IsPrefix v.seen history × IsPrefix home.start v.seen × (of v.rank history ≡ v.mine) × (of v.rank v.seen ≡ v.mine)

  -- what is known of a pass that came back: what it had seen, and its own events
  abbrev pub IsBack : View C A X K → List (Event C A) → ℕ → List (Event C A) × List (Event C A) → Type 0
  IsBack home history rank pass = IsPrefix pass.0 history × IsPrefix home.start pass.0 × (of rank history ≡ pass.1)

-- `ranks` is how many ranks there are, and `permits` the row of a promise: of the key, the promise, a rank and a call
module _ {C A K : Type 0} (ranks : K → ℕ) (permits : K → ℕ → ℕ → C → Type 0) where
  -- an event of a phase: its promise permits the call to its rank, which is one of those that have a pass
  abbrev pub IsPermitted : K → ℕ → Event C A → Type 0
  IsPermitted key promise e = permits key promise e.rank e.call × (e.rank < ranks key)

-- `start` and `next` are the sequential object, and `fits` is the container's own rule: of the key, the promise, the words, the state, and the note of each live rank
module _ {C A X K T : Type 0} (ranks : K → ℕ) (start : K → T) (next : K → T → C → A × T) (permits : K → ℕ → ℕ → C → Type 0) (fits : K → ℕ → List ℕ → T → List X → Type 0) where
  pub record Kept (key : K) (s : State (Unit {0}) (View C A X K)) : Type 0 where
    pub home : View C A X K
    pub others : List (View C A X K)
    pub history : List (Event C A)
    pub late : List (Event C A)
    pub notes : List X
    pub views : s.views ≡ home ∷ others
    pub is_home : (home.role ≡ Home) × (home.key ≡ Some key) × (home.rank ≡ ranks key)
    pub legal : IsLegal (next key) (start key) history
    pub named : All (λ e. e.rank ≤ ranks key) history
    pub since : history ≡ home.start ++ late
    pub permitted : All (IsPermitted ranks permits key home.promise) late
    pub seen : IsPrefix home.seen history
    pub begun : IsPrefix home.start home.seen
    pub own : of home.rank home.start ≡ home.mine
    pub gone : (r : ℕ) → home.passes ≤ r → of r history ≡ of r home.seen
    pub returned : (i : ℕ) (p : List (Event C A) × List (Event C A)) → get_elem? home.back i ≡ plain.some p → IsBack home history (home.passes + i) p
    pub live : (j : ℕ) (v : View C A X K) → get_elem? others j ≡ plain.some v → v.role ≡ Pass → IsLive key home history v × (get_elem? notes v.rank ≡ plain.some v.note)
    pub apart : (i j : ℕ) (v w : View C A X K) → get_elem? others i ≡ plain.some v → get_elem? others j ≡ plain.some w → v.role ≡ Pass → w.role ≡ Pass → v.rank ≡ w.rank → i ≡ j
    pub few : home.passes ≤ ranks key
    pub known : (ws : List ℕ) → home.words ≡ Some ws → (s.words ≡ ws) × (home.passes ≡ 0)
    pub counted : length notes ≡ home.passes
    pub alone : home.loose ≡ true → home.passes ≡ 0
    pub container : home.loose ≡ false → fits key home.promise s.words (state_after (next key) (start key) history) notes

-- What a container shows of one step of a pass: whatever the words, the state and the notes of the ranks, as the word i becomes f of what it was,
-- the rank may make calls, in which the object goes on, and may have another note, so that the container's own rule stays, and `then` holds of the number found, of the state before, of the calls and of the note after
module _ {C A X K T : Type 0} (next : K → T → C → A × T) (permits : K → ℕ → ℕ → C → Type 0) (fits : K → ℕ → List ℕ → T → List X → Type 0) where
  abbrev pub Moves : K → ℕ → ℕ → X → ℕ → (ℕ → ℕ) → (ℕ → T → List C → X → Type 0) → Type 0
  Moves key promise rank note i f then = (ws : List ℕ) (t : T) (xs : List X) → get_elem? xs rank ≡ plain.some note → fits key promise ws t xs → slice_index ws i < 2 ^ 64
      → (did : List C) × (y : X) × All (permits key promise rank) did
      × fits key promise (slice_set ws i (f (slice_index ws i))) (state_by (next key) t did) (slice_set xs rank y)
      × then (slice_index ws i) t did y

  -- what it shows of one step of the home, as no call is in flight and the promise is 0: of the words, which are those that the home knows if it knows any; the home may make calls of its own
  abbrev pub Rests : K → Option (List ℕ) → ℕ → (ℕ → ℕ) → (ℕ → T → List C → Type 0) → Type 0
  Rests key known i f then = (ws : List ℕ) (t : T) → ((vs : List ℕ) → known ≡ Some vs → ws ≡ vs) → fits key 0 ws t [] → slice_index ws i < 2 ^ 64
      → (did : List C) × fits key 0 (slice_set ws i (f (slice_index ws i))) (state_by (next key) t did) [] × then (slice_index ws i) t did

  -- what it shows of two puts of the home that belong together, as no call is in flight: the words between them need not fit, and the second makes the calls
  abbrev pub Pairs : K → Option (List ℕ) → ℕ → ℕ → ℕ → ℕ → (T → List C → Type 0) → Type 0
  Pairs key known i v j w then = (ws : List ℕ) (t : T) → ((vs : List ℕ) → known ≡ Some vs → ws ≡ vs) → fits key 0 ws t []
      → (did : List C) × fits key 0 (slice_set (slice_set ws i v) j w) (state_by (next key) t did) [] × then t did
