use Rattle.std.proofs.Common.{◌≡◌, ◌+◌}
use Rattle.bcl_phase.specs.Parts.{pass_view, IsOf}
use Rattle.bcl_phase.specs.Stands.{Still}
use Rattle.bcl_darray.specs.Calls.{putting, PutsWord}
use Rattle.bcl_darray.proofs.item.write_item.Given as goal

abbrev pub ghosts-put : goal.ghosts-put
ghosts-put g a = record { then = λ _ items did after. PutsWord g.T.Object.WORDS a.about.now.0 (g.T.Object.words a.about.now.1) (pass_view a.self.now).note items did after }

abbrev pub invariant-loop-j : goal.invariant-loop-j
invariant-loop-j g l = record {
  of : IsOf l.pass l.lead;
  still : Still (pass_view l.initial.pass) (pass_view l.pass);
  note : (pass_view l.pass).note ≡ putting g.T.Object.WORDS l.initial.index (g.T.Object.words l.item) l.j;
  gets : (pass_view l.pass).gets ≡ (pass_view l.initial.pass).gets;
  puts : (pass_view l.pass).puts + 1 ≡ (pass_view l.initial.pass).puts + l.j;
  atomics : (pass_view l.pass).atomics ≡ (pass_view l.initial.pass).atomics;
}
