use Rattle.std.proofs.Common.{◌≡◌, List, length}
use Rattle.bcl_words.specs.declared.pair.Pair.{Pair}
use Rattle.bcl_buffer.specs.Lanes.{Lanes}
use Rattle.bcl_buffer.specs.Turning.{AreWide, AreTurning, Turned}
use Rattle.bcl_buffer.proofs.exchanging.turn_row.Given as goal

abbrev pub invariant-loop-s : goal.invariant-loop-s
invariant-loop-s g l = record {
  count : length l.buffers ≡ length l.initial.buffers;
  wide : AreWide l.buffers;
  turning : AreTurning l.buffers;
  turned : (start : List (Lanes (Pair g.row.K.Denot g.row.V.Denot))) → Turned start l.initial.buffers l.r 0 → Turned start l.buffers l.r l.s;
}
