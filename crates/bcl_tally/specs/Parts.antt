-- What a contract sees of a pass, and when it is of a lead.
use Rattle.std.specs.Prelude.{ℕ, List}
use Rattle.bcl_phase.specs.declared.phased.Phased.{Ghosts}
use Rattle.bcl_phase.specs.declared.view.View.{View}
use Rattle.bcl_phase.specs.declared.lead.Lead.{Lead}
use Rattle.bcl_phase.specs.Parts as phase
use Rattle.bcl_phase.specs.Deals as phase_of
use Rattle.bcl_tally.specs.declared.tally.Tally.{Tally}
use Rattle.bcl_tally.specs.declared.tally.Call.{Call}
use Rattle.bcl_tally.specs.declared.tally.Reply.{Reply}
use Rattle.bcl_tally.specs.declared.tally.Note.{Note}
use Rattle.bcl_tally.specs.declared.pass.TallyPass.{TallyPass}

module _ {P : Type 0} {p : _} where
  abbrev pub pass_view : TallyPass P p → View Call Reply Note ℕ
  pass_view pass = phase.pass_view pass.pass.pass

  module _ {g : Ghosts Tally Call Reply (List ℕ) Note ℕ} where
    -- the pass was made together with the lead
    abbrev pub IsOf : TallyPass P p → Lead Tally Call Reply (List ℕ) Note ℕ g → Type 0
    IsOf pass lead = phase.IsOf pass.pass.pass lead

    -- the call with this reply stands in the history, behind all that the pass had seen
    abbrev pub Stands : Lead Tally Call Reply (List ℕ) Note ℕ g → TallyPass P p → TallyPass P p → Call → Reply → Type 0
    Stands lead old new call reply = phase_of.Stands lead old.pass new.pass call reply
