use Rattle.std.proofs.Common.{◌≡◌, ◌-◌, ◌≤◌, ◌++◌, map}
use Rattle.bcl_phase.specs.Parts.{lead_view}
use Rattle.bcl_map.specs.Parts.{lead_key, pass_view, IsOf}
use Rattle.kmer_walk.specs.Nodes.{nodes_from, starts_from}
use Rattle.kmer_walk.specs.Book.{find_of}
use Rattle.kmer_walk.specs.Finds.{Asks, Makes}
use Rattle.kmer_walk.specs.Checks.{AreConsistent}
use Rattle.kmer_walk.proofs.checker.check_lines.Given as goal

-- the lines before this place are checked
abbrev pub invariant-loop-from : goal.invariant-loop-from
invariant-loop-from l = record {
  low : l.first ≤ l.from;
  high : l.from ≤ l.end;
  consistent : AreConsistent l.nodes.k l.nodes.lines.now l.first l.from;
  makes : Makes (lead_key l.nodes.lead.now) (map (find_of l.nodes.k l.nodes.lines.now) (nodes_from l.nodes.lines.now l.first l.from)) (pass_view l.fn.pass) (pass_view l.pass);
  starts : l.starts.items ≡ l.fn.starts.items ++ starts_from l.nodes.k l.nodes.lines.now l.first l.from;
  asks : Asks (lead_view l.nodes.lead.now.lead).start (pass_view l.pass);
  of : IsOf l.pass l.nodes.lead.now;
}

abbrev pub decreases-loop-from : goal.decreases-loop-from
decreases-loop-from l = l.end - l.from
