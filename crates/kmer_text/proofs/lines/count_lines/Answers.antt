use Rattle.std.proofs.Common.{arith}
use Rattle.kmer_text.proofs.Cuts.{one_less}
use Rattle.kmer_text.proofs.lines.count_lines.Goals as goal

pub loop-start-preserved : goal.loop-start-preserved
loop-start-preserved c =
    let less = one_less c.args.text.now c.loop-start.start c.line_end-start.result c.loop-start-test.true c.line_end-start.ensures.place in
    record {
      counted = omega (arith, less, c.loop-start.invariant.counted);
      in_range = omega arith;
      few = omega arith;
    }
