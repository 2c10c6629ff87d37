-- What a contract sees of an array's home, of its lead and of its passes, and when a pass is of a lead.
use Rattle.bcl_segment.specs.declared.layout.Layout.{Layout}
use Rattle.bcl_phase.specs.declared.phased.Phased.{Ghosts}
use Rattle.bcl_phase.specs.declared.view.View.{View}
use Rattle.bcl_phase.specs.Parts as phase
use Rattle.bcl_darray.specs.declared.array.Array.{Array}
use Rattle.bcl_darray.specs.declared.home.ArrayHome.{ArrayHome}
use Rattle.bcl_darray.specs.declared.lead.ArrayLead.{ArrayLead}
use Rattle.bcl_darray.specs.declared.pass.ArrayPass.{ArrayPass}

module _ {V C A T X L : Type 0} {g : Ghosts (Array V) C A T X L} where
  abbrev pub home_view : ArrayHome V C A T X L g → View C A X L
  home_view home = phase.home_view home.home

  abbrev pub home_key : ArrayHome V C A T X L g → L
  home_key home = phase.home_key home.home

  abbrev pub lead_key : ArrayLead V C A T X L g → L
  lead_key lead = phase.lead_key lead.lead

  abbrev pub lead_layout : ArrayLead V C A T X L g → Layout
  lead_layout lead = phase.lead_layout lead.lead

  module _ {P : Type 0} {p t : _} where
    abbrev pub pass_view : ArrayPass P V C A T X L p g t → View C A X L
    pass_view pass = phase.pass_view pass.pass.pass

    -- the pass was made together with the lead
    abbrev pub IsOf : ArrayPass P V C A T X L p g t → ArrayLead V C A T X L g → Type 0
    IsOf pass lead = phase.IsOf pass.pass.pass lead.lead
