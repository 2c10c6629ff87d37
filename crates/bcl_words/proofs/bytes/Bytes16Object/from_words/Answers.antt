use Rattle.std.proofs.Common.{◌∙◌, ap, sym, arith}
use Rattle.bcl_words.specs.Bytes.{padded_words}
use Rattle.bcl_words.proofs.BytesRead.{bytes_read}
use Rattle.bcl_words.proofs.bytes.Bytes16Object.from_words.Goals as goal

pub returns-clause-some : goal.returns-clause-some
returns-clause-some c =
    ap (padded_words 2) c.write_bytes.ensures
    ∙ bytes_read 2 c.args.w.now (omega arith) (sym c.zeros_from.ensures ∙ c.if-not-zeros_from.false)
