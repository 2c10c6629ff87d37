use Rattle.std.proofs.Common.{ℕ, length, length-take, length-drop, arith, ap, subst}
use Rattle.std.specs.Io.KnownBytes.{Appends}
use Rattle.std.proofs.KnownBytes.{Appends-trans}
use Rattle.bcl_io.proofs.Pieces.{take_part}
use Rattle.bcl_io.proofs.whole.write_all.Goals as goal

pub loop-done-preserved : goal.loop-done-preserved
loop-done-preserved g c =
    let w = c.in_ok-done.ensures in
    let inv = c.loop-done.invariant in
    let taken = g.O.Sink.taken in
    record {
      in_range = omega (arith, w.bound, length-take {A = ℕ}, length-drop {A = ℕ});
      appended = subst (Appends (taken c.args.out.now) (taken c.write.new.self)) (take_part c.args.bytes.now c.loop-done.done c.in_ok-done.field-0)
          (Appends-trans _ _ _ _ _ inv.appended w.bytes);
      no_fault = cc w.faults.ok;
      no_call = λ none. absurd (omega (arith, ap length none, c.loop-done-test.true));
    }
