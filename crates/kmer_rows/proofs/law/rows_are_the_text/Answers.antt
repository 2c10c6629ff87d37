use Rattle.std.proofs.Common.{arith}
use Rattle.kmer_rows.proofs.Texts.{text_is}
use Rattle.kmer_rows.proofs.law.rows_are_the_text.Goals as goal

pub returns : goal.returns
returns c k least lines entries length positive letters counts = text_is k least lines entries (omega (arith, length.least)) positive letters counts
