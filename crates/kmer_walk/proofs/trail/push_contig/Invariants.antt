use Rattle.bcl_phase.specs.Parts.{lead_view}
use Rattle.bcl_map.specs.Parts.{lead_key, pass_view, IsOf}
use Rattle.kmer_walk.proofs.Trails.{Trail}
use Rattle.kmer_walk.proofs.trail.push_contig.Given as goal

-- the walk is on its way
abbrev pub invariant-loop-forward : goal.invariant-loop-forward
invariant-loop-forward l = record {
  trail : Trail l.nodes.k l.nodes.lines.now (lead_key l.nodes.lead.now) l.start l.most l.fn.text.items (lead_view l.nodes.lead.now.lead).start (pass_view l.fn.pass) l.key l.forward l.left l.text.items l.marks (pass_view l.pass);
  of : IsOf l.pass l.nodes.lead.now;
}

-- each letter takes of the room
abbrev pub decreases-loop-forward : goal.decreases-loop-forward
decreases-loop-forward l = l.left
