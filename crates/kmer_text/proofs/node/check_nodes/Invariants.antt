use Rattle.std.proofs.Common.{◌≡◌, ◌+◌, drop}
use Rattle.kmer_text.specs.Nodes.{bad_node, bad_node_from}
use Rattle.kmer_text.proofs.node.check_nodes.Given as goal

-- the first bad line is among those that are left
abbrev pub invariant-loop-i : goal.invariant-loop-i
invariant-loop-i l = bad_node l.k l.lines ≡ bad_node_from l.k (l.i + 1) (drop l.i l.lines)
