use Rattle.bcl_phase.specs.Parts.{lead_key, pass_view}
use Rattle.bcl_map.specs.Walking.{strays, SeesControl}
use Rattle.bcl_map.proofs.look.see.Given as goal

abbrev pub ghosts-get : goal.ghosts-get
ghosts-get g a = record { then = SeesControl g.K.Object.WORDS g.V.Object.WORDS g.L.MergeLaw.op (lead_key a.lead.now) (g.C.Walking.walker a.about.now.0 a.about.now.1) (strays (pass_view a.self.now).note.claims) a.about.now.1 a.about.now.2 (pass_view a.self.now).note }
