use Rattle.bcl_phase.specs.Parts.{lead_key, pass_view}
use Rattle.bcl_map.specs.Finds.{value_of}
use Rattle.bcl_map.specs.Inserts.{Replaces}
use Rattle.bcl_map.proofs.put.replace.Given as goal

abbrev pub ghosts-put : goal.ghosts-put
ghosts-put g a = record { then = λ _. Replaces g.K.Object.WORDS g.V.Object.WORDS g.L.MergeLaw.op (lead_key a.lead.now) (g.C.Walking.walker a.about.now.0 a.about.now.1).call a.about.now.1 a.about.now.2 a.about.now.3 (value_of (pass_view a.self.now).note.claims) (pass_view a.self.now).note }
