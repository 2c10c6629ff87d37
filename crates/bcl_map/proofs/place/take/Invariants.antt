use Rattle.bcl_phase.specs.Parts.{lead_key, pass_view}
use Rattle.bcl_map.specs.Inserts.{Takes}
use Rattle.bcl_map.proofs.place.take.Given as goal

abbrev pub ghosts-cas : goal.ghosts-cas
ghosts-cas g a = record { then = Takes g.K.Object.WORDS g.V.Object.WORDS g.L.MergeLaw.op (lead_key a.lead.now) (g.C.Walking.walker a.about.now.0 a.about.now.1).call a.about.now.1 (g.C.Storing.value a.about.now.0) a.about.now.2 (pass_view a.self.now).note }
