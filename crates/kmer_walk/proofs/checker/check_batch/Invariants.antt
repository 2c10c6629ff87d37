use Rattle.std.proofs.Common.{◌≡◌, ◌+◌, ◌++◌, map}
use Rattle.bcl_phase.specs.Parts.{lead_view}
use Rattle.bcl_map.specs.Parts.{lead_key, pass_view, IsOf}
use Rattle.kmer_walk.specs.Nodes.{nodes_from, starts_from}
use Rattle.kmer_walk.specs.Book.{find_of}
use Rattle.kmer_walk.specs.Finds.{Asks, Makes}
use Rattle.kmer_walk.specs.Checks.{AreConsistent}
use Rattle.kmer_walk.proofs.checker.check_batch.Given as goal

-- the lines before this one are checked
abbrev pub invariant-loop-i : goal.invariant-loop-i
invariant-loop-i l = record {
  consistent : AreConsistent l.nodes.k l.nodes.lines.now l.from (l.from + l.i);
  makes : Makes (lead_key l.nodes.lead.now) (map (find_of l.nodes.k l.nodes.lines.now) (nodes_from l.nodes.lines.now l.from (l.from + l.i))) (pass_view l.fn.pass) (pass_view l.pass);
  starts : l.starts.items ≡ l.fn.starts.items ++ starts_from l.nodes.k l.nodes.lines.now l.from (l.from + l.i);
  asks : Asks (lead_view l.nodes.lead.now.lead).start (pass_view l.pass);
  of : IsOf l.pass l.nodes.lead.now;
}
