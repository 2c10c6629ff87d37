use Rattle.std.proofs.Common.{◌∙◌, ◌^◌, ◌<◌, ap, arith}
use Rattle.std.proofs.lemmas.List.Elements.{All-from_get_or}
use Rattle.bcl_words.specs.Words.{is_words}
use Rattle.bcl_words.specs.Bytes.{padded_words}
use Rattle.bcl_words.proofs.WordsPass.{eight_pass, some_if_passes}
use Rattle.bcl_words.proofs.BytesRead.{bytes_read}
use Rattle.bcl_words.proofs.bytes.Bytes64Object.from_words.Goals as goal

pub returns-clause-none : goal.returns-clause-none
returns-clause-none c =
    let w = c.args.w.now in
    some_if_passes (is_words 8 w) (eight_pass w c.told-w (All-from_get_or (λ x. x < 2 ^ 64) w 0 (λ i _. c.fits-w i)))

pub returns-clause-some : goal.returns-clause-some
returns-clause-some c =
    let w = c.args.w.now in
    ap (padded_words 8) c.write_bytes.ensures
    ∙ bytes_read 8 w (omega arith) (eight_pass w c.told-w (All-from_get_or (λ x. x < 2 ^ 64) w 0 (λ i _. c.fits-w i)))
