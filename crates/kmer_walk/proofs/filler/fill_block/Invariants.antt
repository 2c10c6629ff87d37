use Rattle.kmer_walk.specs.Nodes.{nodes_from}
use Rattle.kmer_walk.specs.Fills.{Fills}
use Rattle.kmer_walk.proofs.filler.fill_block.Given as goal

-- the nodes of the lines before this one
abbrev pub invariant-loop-place : goal.invariant-loop-place
invariant-loop-place l = Fills l.k l.lines (nodes_from l.lines l.first l.place) l.fn.buffer l.buffer
