use Rattle.std.proofs.Common.{◌∙◌, ◌+◌, [], length, take, get_or, sym, ap, arith, length-take-le}
use Rattle.std.proofs.lemmas.Option.{get_or_from_slice_get}
use Rattle.kmer_text.specs.Kmers.{number_of}
use Rattle.kmer_text.specs.Nodes.{code_of}
use Rattle.kmer_text.proofs.GoodNodes.{length-good, not_empty}
use Rattle.kmer_text.proofs.node.node_of.Goals as goal

pub slice_bounds-packed-end : goal.slice_bounds-packed-end
slice_bounds-packed-end c =
    let line = c.line-line.result.now in
    let long = length-good c.args.k c.args.i c.args.lines.now line c.requires.good c.requires.place c.line-line.ensures (not_empty line c.if-is_empty.ensures) in
    sym (length-take-le c.args.k line (omega (arith, long)))

pub bounds-line-k : goal.bounds-line-k
bounds-line-k c =
    let line = c.line-line.result.now in
    omega (arith, length-good c.args.k c.args.i c.args.lines.now line c.requires.good c.requires.place c.line-line.ensures (not_empty line c.if-is_empty.ensures))

pub bounds-line-k-2 : goal.bounds-line-k-2
bounds-line-k-2 c =
    let line = c.line-line.result.now in
    omega (arith, length-good c.args.k c.args.i c.args.lines.now line c.requires.good c.requires.place c.line-line.ensures (not_empty line c.if-is_empty.ensures))

pub returns-clause-none : goal.returns-clause-none
returns-clause-none c =
    let line = c.line-line.result.now in
    let same = get_or_from_slice_get c.args.lines.now c.args.i line [] c.line-line.ensures in
    (λ e. absurd (cc), λ empty. absurd (not_empty line c.if-is_empty.ensures (sym (ap length same) ∙ empty)))

pub returns-clause-key : goal.returns-clause-key
returns-clause-key c =
    let line = c.line-line.result.now in
    c.packed.ensures.value ∙ ap (λ xs. number_of (take c.args.k xs)) (sym (get_or_from_slice_get c.args.lines.now c.args.i line [] c.line-line.ensures))

pub returns-clause-back : goal.returns-clause-back
returns-clause-back c =
    let line = c.line-line.result.now in
    c.code.ensures.value ∙ ap (λ xs. code_of (get_or xs (c.args.k + 1) 0)) (sym (get_or_from_slice_get c.args.lines.now c.args.i line [] c.line-line.ensures))

pub returns-clause-forward : goal.returns-clause-forward
returns-clause-forward c =
    let line = c.line-line.result.now in
    c.code-2.ensures.value ∙ ap (λ xs. code_of (get_or xs (c.args.k + 2) 0)) (sym (get_or_from_slice_get c.args.lines.now c.args.i line [] c.line-line.ensures))
