use Rattle.std.proofs.Common.{◌≡◌, ◌+◌, ◌<◌, ◌≤◌}
use Rattle.bcl_phase.specs.Parts.{lead_key, pass_view, IsOf}
use Rattle.bcl_map.specs.Finds.{reading, value_of}
use Rattle.bcl_map.specs.Walking.{strays, SeesKey}
use Rattle.bcl_map.specs.Reaches.{Comes, IsMatching}
use Rattle.bcl_map.proofs.look.has_key.Given as goal

abbrev pub ghosts-get : goal.ghosts-get
ghosts-get g a = record { then = SeesKey g.K.Object.WORDS g.V.Object.WORDS g.L.MergeLaw.op (lead_key a.lead.now) (g.C.Walking.walker a.about.now.0 a.about.now.1) (strays (pass_view a.self.now).note.claims) a.about.now.1 a.about.now.2 a.about.now.3 (pass_view a.self.now).note }

abbrev pub invariant-loop-j : goal.invariant-loop-j
invariant-loop-j g l = record {
  of : IsOf l.pass l.lead;
  came : Comes g.L.MergeLaw.op (lead_key l.lead) (pass_view l.initial.pass) (pass_view l.pass);
  matching : l.j < g.K.Object.WORDS → IsMatching l.initial.key l.initial.number l.j (pass_view l.pass);
  reads : g.K.Object.WORDS ≤ l.j → (pass_view l.pass).note.claims ≡ reading l.initial.key l.initial.number (value_of (pass_view l.pass).note.claims);
  gets : (pass_view l.pass).gets ≡ (pass_view l.initial.pass).gets + l.j;
  puts : (pass_view l.pass).puts ≡ (pass_view l.initial.pass).puts;
  atomics : (pass_view l.pass).atomics ≡ (pass_view l.initial.pass).atomics;
}
