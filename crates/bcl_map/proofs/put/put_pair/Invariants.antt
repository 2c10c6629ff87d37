use Rattle.std.proofs.Common.{◌≡◌, ◌+◌}
use Rattle.bcl_phase.specs.Parts.{lead_key, pass_view, IsOf}
use Rattle.bcl_phase.specs.Stands.{Still}
use Rattle.bcl_map.specs.declared.note.Before.TheVariants.{Nothing}
use Rattle.bcl_map.specs.Inserts.{writing, PutsWord}
use Rattle.bcl_map.proofs.put.put_pair.Given as goal

abbrev pub ghosts-put : goal.ghosts-put
ghosts-put g a = record { then = λ _. PutsWord g.K.Object.WORDS g.V.Object.WORDS g.L.MergeLaw.op (lead_key a.lead.now) a.about.now.0 a.about.now.1 a.about.now.2 Nothing a.about.now.3 (pass_view a.self.now).note }

abbrev pub invariant-loop-j : goal.invariant-loop-j
invariant-loop-j g l = record {
  of : IsOf l.pass l.lead;
  still : Still (pass_view l.initial.pass) (pass_view l.pass);
  writes : (pass_view l.pass).note.claims ≡ writing (lead_key l.lead) l.initial.key l.initial.number Nothing l.initial.value l.j;
  gets : (pass_view l.pass).gets ≡ (pass_view l.initial.pass).gets;
  puts : (pass_view l.pass).puts ≡ (pass_view l.initial.pass).puts + l.j;
  atomics : (pass_view l.pass).atomics ≡ (pass_view l.initial.pass).atomics;
}
