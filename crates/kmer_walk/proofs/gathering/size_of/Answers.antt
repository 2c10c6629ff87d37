use Rattle.std.proofs.Common.{◌+◌, length, ap, arith}
use Rattle.std.proofs.lemmas.List.{take_all}
use Rattle.std.proofs.lemmas.List.Sums.{sum_by_more}
use Rattle.kmer_walk.specs.declared.walker.Texts.{Texts}
use Rattle.kmer_walk.specs.Texts.{size_of}
use Rattle.kmer_walk.proofs.gathering.size_of.Goals as goal

pub loop-part-preserved : goal.loop-part-preserved
loop-part-preserved c =
    let parts = c.args.parts.now in
    let i = c.loop-part.part-index in
    let part = c.part-item.result in
    let size : Texts → _ = λ p. length p.bytes.items + length p.ends.items in
    let more = sum_by_more size parts i part c.loop-part-test.true in
    let here = ap size c.part-item.is in
    omega (arith, c.loop-part.invariant, c.len.ensures, c.len-in-loop-part.ensures, c.saturating_add-size.ensures, c.saturating_add-size-in-loop-part.ensures)

pub returns : goal.returns
returns c = let all = ap size_of (take_all c.loop-part.part-index c.args.parts.now (omega (arith, c.loop-part-test.false))) in record { size = omega (arith, c.loop-part.invariant, all) }
