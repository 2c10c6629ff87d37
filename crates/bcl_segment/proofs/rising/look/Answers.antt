use Rattle.std.proofs.Common.{slice_index, arith, refl}
use Rattle.bcl_segment.specs.Parts.{number_of}
use Rattle.bcl_segment.proofs.RisingLemmas.{raised}
use Rattle.bcl_segment.proofs.rising.look.Goals as goal

pub get-requires-clause-rule : goal.get-requires-clause-rule
get-requires-clause-rule c = λ s kept at _. let n = slice_index s.words 0 in (n, raised s.words s.views n (number_of c.args.seat.now) n kept (omega arith) (omega arith), (kept.views_below _ _ at, refl))
