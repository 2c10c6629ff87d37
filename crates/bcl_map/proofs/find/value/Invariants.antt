use Rattle.std.proofs.Common.{◌≡◌, ◌+◌, ◌≤◌, ℕ, length, slice_index}
use Rattle.bcl_phase.specs.Parts.{lead_key, pass_view, IsOf}
use Rattle.bcl_phase.specs.Stands.{Still}
use Rattle.bcl_phase.specs.Flights.{Lies}
use Rattle.bcl_map.specs.Finds.{reading, value_of, Typed, FindsValue}
use Rattle.bcl_map.proofs.find.value.Given as goal

abbrev pub ghosts-get : goal.ghosts-get
ghosts-get g a = record { then = Typed g.K.Object.passes g.V.Object.passes (FindsValue g.K.Object.WORDS g.V.Object.WORDS g.L.MergeLaw.op (lead_key a.lead.now) a.about.now.0 a.about.now.1 (value_of (pass_view a.self.now).note.claims) a.about.now.2 (pass_view a.self.now).note) }

abbrev pub invariant-loop-j : goal.invariant-loop-j
invariant-loop-j g l = record {
  of : IsOf l.pass l.lead;
  still : Still (pass_view l.initial.pass) (pass_view l.pass);
  reads : (pass_view l.pass).note.claims ≡ reading l.initial.key l.initial.number (value_of (pass_view l.pass).note.claims);
  got : Lies l.words 0 (value_of (pass_view l.pass).note.claims) l.j;
  room : length l.words ≡ 8;
  zeros : (k : ℕ) → l.j ≤ k → slice_index l.words k ≡ 0;
  gets : (pass_view l.pass).gets ≡ (pass_view l.initial.pass).gets + l.j;
  puts : (pass_view l.pass).puts ≡ (pass_view l.initial.pass).puts;
  atomics : (pass_view l.pass).atomics ≡ (pass_view l.initial.pass).atomics;
}
