use Rattle.std.proofs.Common.{◌≡◌, ◌*◌, ◌<◌, ◌-◌, ◌++◌, ◌∙◌, ap, sym, length, take, drop, replicate, arith, length-drop}
use Rattle.std.specs.Int.{from_le_bytes, w64}
use Rattle.std.proofs.lemmas.List.{take_all}
use Rattle.std.proofs.lemmas.List.Elements.{All-from_get_or}
use Rattle.bcl_words.specs.Bytes.{byte_words}
use Rattle.bcl_words.specs.ByteLaws.{AreBytes, padded_when}
use Rattle.bcl_words.proofs.BytesRead.{test_if_bytes, bytes_pass}
use Rattle.bcl_words.proofs.ByteLoops.{no_words, word_written}
use Rattle.bcl_words.proofs.bytes.words_of.Goals as goal

pub loop-i-init : goal.loop-i-init
loop-i-init c = ap (λ l. l ++ replicate 8 0) (sym (no_words c.args.bytes.now))

pub loop-i-preserved : goal.loop-i-preserved
loop-i-preserved c =
    let bs = c.args.bytes.now in let i = c.loop-i.i in
    let rest = take_all (length bs - 8 * i) (drop (8 * i) bs) (omega (arith, length-drop (8 * i) bs)) in
    rw c.loop-i.invariant
    (word_written i bs c.first_word.result (omega arith) (c.first_word.ensures ∙ ap (λ l. from_le_bytes w64 (take 8 l)) rest))

pub returns-clause-words : goal.returns-clause-words
returns-clause-words c =
    let all : c.loop-i.i ≡ c.args.count = omega arith in
    let bytes : AreBytes (8 * c.args.count) c.args.bytes.now =
    record { len = c.requires.bytes; in_range = All-from_get_or (λ byte. byte < 256) c.args.bytes.now 0 (λ i _. (c.type_inv.bytes i).fits) } in
    c.loop-i.invariant ∙ ap (λ n. byte_words n c.args.bytes.now ++ replicate (8 - n) 0) all
    ∙ sym (padded_when c.args.count c.args.bytes.now (test_if_bytes (8 * c.args.count) c.args.bytes.now bytes))

pub returns-clause-passes : goal.returns-clause-passes
returns-clause-passes c =
    bytes_pass c.args.count c.args.bytes.now c.requires.room
    (record { len = c.requires.bytes; in_range = All-from_get_or (λ byte. byte < 256) c.args.bytes.now 0 (λ i _. (c.type_inv.bytes i).fits) })
