-- What a contract sees of a map's home, of its lead and of its passes, and when a pass is of a lead; and of a closed map.
use Rattle.std.specs.Prelude.{◌≡◌}
use Rattle.bcl_segment.specs.declared.layout.Layout.{Layout}
use Rattle.bcl_phase.specs.declared.phased.Phased.{Ghosts}
use Rattle.bcl_phase.specs.declared.view.View.{View}
use Rattle.bcl_phase.specs.Parts as phase
use Rattle.bcl_map.specs.declared.map.Map.{Map}
use Rattle.bcl_map.specs.declared.close.ClosedMap.{ClosedMap}
use Rattle.bcl_map.specs.declared.home.MapHome.{MapHome}
use Rattle.bcl_map.specs.declared.lead.MapLead.{MapLead}
use Rattle.bcl_map.specs.declared.pass.MapPass.{MapPass}
use Rattle.bcl_map.specs.Calls.{MapView}

module _ {K V L C A T X S : Type 0} {g : Ghosts (Map K V L) C A T X S} where
  abbrev pub home_view : MapHome K V L C A T X S g → View C A X S
  home_view home = phase.home_view home.home

  abbrev pub home_key : MapHome K V L C A T X S g → S
  home_key home = phase.home_key home.home

  abbrev pub home_layout : MapHome K V L C A T X S g → Layout
  home_layout home = phase.home_layout home.home

  -- the same home, with the same view
  abbrev pub IsAsBefore : MapHome K V L C A T X S g → MapHome K V L C A T X S g → Type 0
  IsAsBefore old new = phase.IsSameHome old.home new.home × (home_view new ≡ home_view old)

  abbrev pub lead_key : MapLead K V L C A T X S g → S
  lead_key lead = phase.lead_key lead.lead

  module _ {P : Type 0} {p t : _} where
    abbrev pub pass_view : MapPass P K V L C A T X S p g t → View C A X S
    pass_view pass = phase.pass_view pass.pass.pass

    -- the pass was made together with the lead
    abbrev pub IsOf : MapPass P K V L C A T X S p g t → MapLead K V L C A T X S g → Type 0
    IsOf pass lead = phase.IsOf pass.pass.pass lead.lead

module _ {K V L : Type 0} {k v l o g : _} where
  -- what the home knew: its history is the book of the closed map
  abbrev pub closed_view : ClosedMap K V L k v l o g → MapView
  closed_view closed = phase.closed_view closed.closed
