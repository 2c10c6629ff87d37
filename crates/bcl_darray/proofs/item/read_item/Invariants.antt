use Rattle.std.proofs.Common.{◌≡◌, ℕ, ◌+◌, ◌≤◌, length, slice_index}
use Rattle.bcl_phase.specs.Parts.{pass_view, IsOf}
use Rattle.bcl_phase.specs.Stands.{Still}
use Rattle.bcl_darray.specs.Calls.{HasGot, GetsWord}
use Rattle.bcl_darray.proofs.item.read_item.Given as goal

abbrev pub ghosts-get : goal.ghosts-get
ghosts-get g a = record { then = GetsWord g.T.Object.WORDS g.T.Object.passes a.about.now.0 a.about.now.1 (pass_view a.self.now).note }

abbrev pub invariant-loop-j : goal.invariant-loop-j
invariant-loop-j g l = record {
  of : IsOf l.pass l.lead;
  still : Still (pass_view l.initial.pass) (pass_view l.pass);
  got : HasGot l.initial.index l.j l.words (pass_view l.pass).note;
  room : length l.words ≡ 8;
  zeros : (k : ℕ) → l.j ≤ k → slice_index l.words k ≡ 0;
  gets : (pass_view l.pass).gets ≡ (pass_view l.initial.pass).gets + l.j;
  puts : (pass_view l.pass).puts ≡ (pass_view l.initial.pass).puts;
  atomics : (pass_view l.pass).atomics ≡ (pass_view l.initial.pass).atomics;
}
