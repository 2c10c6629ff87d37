-- What begins and ends with a phase: its lead and its passes.
-- A lead's type has the container's sequential object, `g`. The passes are of whatever type, each of which holds one of the phase.
use Rattle.std.specs.Prelude.{◌≡◌, ℕ, ◌+◌, List, [], ◌∷◌, length, Some, None, false}
use mathlib.Core.Option.{some}
use lib.ListN.{get_elem?}
use Rattle.bcl_event.specs.declared.event.Event.{Event}
use Rattle.bcl_event.specs.History.{event, state_after, IsLegal}
use Rattle.bcl_phase.specs.declared.view.View.{View}
use Rattle.bcl_phase.specs.declared.phased.Phased.{Ghosts}
use Rattle.bcl_phase.specs.declared.home.Home.{Home}
use Rattle.bcl_phase.specs.declared.lead.Lead.{Lead}
use Rattle.bcl_phase.specs.declared.loose.Loose.{Loose}
use Rattle.bcl_phase.specs.declared.rested.Rested.{Rested}
use Rattle.bcl_phase.specs.Phases.{begun, Returned, Ended}
use Rattle.bcl_phase.specs.Stands as phase
use Rattle.bcl_phase.specs.Parts.{home_view, loose_view, loose_words, IsLooseLead, lead_view, lead_id, lead_key, lead_layout, pass_view, pass_table, pass_layout, IsLeadOf, IsSameLead}

module _ {R P C A T X K : Type 0} {g : Ghosts R C A T X K} {t p : _} where
  abbrev pub view : Rested R P C A T X K g t p → View C A X K
  view pass = pass_view pass.pass

  -- the pass is one of the lead's
  abbrev pub IsIn : {S : Type 0} {h : Ghosts R C A S X K} → Rested R P C A T X K g t p → Lead R C A S X K h → Type 0
  IsIn pass lead = (pass_table pass.pass ≡ lead_id lead) × ((view pass).key ≡ Some (lead_key lead)) × (pass_layout pass.pass ≡ lead_layout lead)

  -- a call with this reply stands in the history of the lead's container, behind all that the pass had seen
  abbrev pub Stands : {S : Type 0} {h : Ghosts R C A S X K} → Lead R C A S X K h → Rested R P C A T X K g t p → Rested R P C A T X K g t p → C → A → Type 0
  Stands {S} {h} lead old new call reply = phase.Stands h.ranks h.start h.next h.permits (lead_key lead) (view old) (view new) (event (view old).rank call reply ∷ [])

  -- it made so many gets, puts and atomic steps
  pub record Makes (get put atomic : ℕ) (old new : Rested R P C A T X K g t p) : Type 0 where
    pub gets : (view new).gets ≡ (view old).gets + get
    pub puts : (view new).puts ≡ (view old).puts + put
    pub atomics : (view new).atomics ≡ (view old).atomics + atomic

module _ {R P C A T X K W : Type 0} {g : Ghosts R C A T X K} {t p : _} (inner : W → Rested R P C A T X K g t p) where
  -- these passes are of the lead, rank i at place i
  abbrev pub AreOf : Lead R C A T X K g → List W → Type 0
  AreOf lead passes = (i : ℕ) (w : W) → get_elem? passes i ≡ some w → IsIn (inner w) lead × ((view (inner w)).rank ≡ i)

  -- these are all the passes of the lead
  pub record AreAll (lead : Lead R C A T X K g) (passes : List W) : Type 0 where
    pub count : length passes ≡ (lead_layout lead).ranks
    pub of : AreOf lead passes

  -- a phase under a promise begins with this history, which is legal: the lead, and a new pass for each rank
  pub record BeginsAt (code : ℕ) (history : List (Event C A)) (lead : Lead R C A T X K g) (passes : List W) : Type 0 where
    pub all : AreAll lead passes
    pub begun : (i : ℕ) (w : W) → get_elem? passes i ≡ some w → view (inner w) ≡ begun g.rest code (lead_key lead) history i
    pub legal : IsLegal (g.next (lead_key lead)) (g.start (lead_key lead)) history
    pub start : (lead_view lead).start ≡ history
    pub promise : (lead_view lead).promise ≡ code

  -- the phase of a lead, under this promise, ends with this history, of which each pass knew its part
  pub record EndsAt (code : ℕ) (lead : Lead R C A T X K g) (passes : List W) (history : List (Event C A)) : Type 0 where
    pub ended : Ended g.ranks g.start g.next g.permits (lead_key lead) code (lead_view lead).start history
    pub returned : (i : ℕ) (w : W) → get_elem? passes i ≡ some w → Returned (lead_view lead).start history i (view (inner w))

  -- a home begins a phase under a promise
  pub record Begins (code : ℕ) (home : Home R C A T X K g) (lead : Lead R C A T X K g) (passes : List W) : Type 0 where
    pub same : IsLeadOf lead home
    pub begins : BeginsAt code (home_view home).seen lead passes

  -- the phase of a lead, under this promise, ends, and leaves this home
  pub record Ends (code : ℕ) (lead : Lead R C A T X K g) (passes : List W) (home : Home R C A T X K g) : Type 0 where
    pub same : IsLeadOf lead home
    pub ends : EndsAt code lead passes (home_view home).seen
    pub unknown : (home_view home).words ≡ None

  -- the same, where the words of the home are loose: they fit as the phase left them
  pub record EndsLoose (code : ℕ) (lead : Lead R C A T X K g) (passes : List W) (home : Loose R C A T X K g) : Type 0 where
    pub same : IsLooseLead lead home
    pub ends : EndsAt code lead passes (loose_view home).seen
    pub fit : g.fits (lead_key lead) code (loose_words home) (state_after (g.next (lead_key lead)) (g.start (lead_key lead)) (loose_view home).seen) []

  -- a home that has taken back the passes of the lead, and was told nothing yet
  pub record AreBack (code : ℕ) (lead : Lead R C A T X K g) (passes : List W) (home : View C A X K) : Type 0 where
    pub promise : home.promise ≡ code
    pub start : home.start ≡ (lead_view lead).start
    pub none : home.passes ≡ 0
    pub whole : home.loose ≡ false
    pub back : (i : ℕ) (w : W) → get_elem? passes i ≡ some w → get_elem? home.back i ≡ some ((view (inner w)).seen, (view (inner w)).mine)

-- the phase of a lead, under the first promise, ends, and another under the second begins
pub record Turns {R P Q C A T X K W Y : Type 0} {g : Ghosts R C A T X K} {t p u q : _} (inner : W → Rested R P C A T X K g t p) (other : Y → Rested R Q C A T X K g u q)
    (before code : ℕ) (old : Lead R C A T X K g) (passes : List W) (new : Lead R C A T X K g) (others : List Y) : Type 0 where
  pub same : IsSameLead old new
  pub ends : EndsAt inner before old passes (lead_view new).start
  pub begins : BeginsAt other code (lead_view new).start new others
