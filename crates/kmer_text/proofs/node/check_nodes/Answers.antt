use Rattle.std.proofs.Common.{◌∙◌, ◌+◌, sym, arith}
use Rattle.std.proofs.lemmas.Option.{none-some}
use Rattle.kmer_text.specs.Nodes.{fault_at, bad_node}
use Rattle.kmer_text.proofs.GoodNodes.{bad_node-passes, bad_node-here, names_node}
use Rattle.kmer_text.proofs.node.check_nodes.Goals as goal

pub returns-in-Some-clause-good : goal.returns-in-Some-clause-good
returns-in-Some-clause-good c =
    let ls = c.args.lines.now in
    let here = c.loop-i.invariant ∙ bad_node-here c.args.k c.loop-i.i ls c.line.result.now c.in-Some.kind (omega arith) c.line.ensures (sym c.in-Some.ensures) in
    (λ e. absurd (cc), λ none. absurd (none-some (fault_at (c.loop-i.i + 1) c.in-Some.kind) (sym none ∙ here)))

pub returns-in-Some-clause-bad : goal.returns-in-Some-clause-bad
returns-in-Some-clause-bad c =
    let ls = c.args.lines.now in
    let here = c.loop-i.invariant ∙ bad_node-here c.args.k c.loop-i.i ls c.line.result.now c.in-Some.kind (omega arith) c.line.ensures (sym c.in-Some.ensures) in
    names_node (bad_node c.args.k ls) (fault_at (c.loop-i.i + 1) c.in-Some.kind) here

pub loop-i-preserved : goal.loop-i-preserved
loop-i-preserved c =
    c.loop-i.invariant ∙ bad_node-passes c.args.k c.loop-i.i c.args.lines.now c.line.result.now (omega arith) c.line.ensures (sym c.in_default.ensures)
