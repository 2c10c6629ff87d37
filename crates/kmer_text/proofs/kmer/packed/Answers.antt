use Rattle.std.proofs.Common.{◌∙◌, ◌≤◌, length, take, get_or, arith, ap, length-take-le}
use Rattle.std.proofs.lemmas.List.{take_more, take_all}
use Rattle.kmer_text.specs.Kmers.{number_of}
use Rattle.kmer_text.proofs.Numbers.{digit_of-lt, number_of-lt, number_of-push, four-le}
use Rattle.kmer_text.proofs.kmer.packed.Goals as goal

pub overflow_mul-bits : goal.overflow_mul-bits
overflow_mul-bits c =
    let so_far = take c.loop-byte.byte-index c.args.word.now in
    let short : length so_far ≤ 30 = omega (arith, length-take-le c.loop-byte.byte-index c.args.word.now (omega arith)) in
    omega (arith, number_of-lt so_far, four-le (length so_far) 30 short)

pub overflow_add-bits : goal.overflow_add-bits
overflow_add-bits c =
    let so_far = take c.loop-byte.byte-index c.args.word.now in
    let short : length so_far ≤ 30 = omega (arith, length-take-le c.loop-byte.byte-index c.args.word.now (omega arith)) in
    omega (arith, number_of-lt so_far, four-le (length so_far) 30 short, digit_of-lt (get_or c.args.word.now c.loop-byte.byte-index 0))

pub loop-byte-preserved : goal.loop-byte-preserved
loop-byte-preserved c =
    let word = c.args.word.now in
    let i = c.loop-byte.byte-index in
    let next = get_or word i 0 in
    let more = ap number_of (take_more word i 0 (omega arith)) ∙ number_of-push (take i word) next in
    omega (arith, more, c.loop-byte.invariant, c.digit.ensures)

pub returns-clause-bound : goal.returns-clause-bound
returns-clause-bound c =
    let word = c.args.word.now in
    let whole = ap number_of (take_all c.loop-byte.byte-index word c.loop-byte-test.false) in
    omega (arith, number_of-lt word, whole, c.loop-byte.invariant)
