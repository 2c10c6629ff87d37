use Rattle.std.proofs.Common.{arith}
use Rattle.kmer_text.proofs.Runs.{length-windows}
use Rattle.kmer_text.proofs.check.count_of.Goals as goal

pub returns : goal.returns
returns c = omega (arith, c.saturating_sub.ensures, length-windows c.args.k c.args.line.now)
