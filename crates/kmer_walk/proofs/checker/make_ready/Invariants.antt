use Rattle.std.proofs.Common.{◌≡◌, length}
use Rattle.bcl_map.specs.Parts.{lead_key}
use Rattle.kmer_walk.specs.Checks.{AreReady}
use Rattle.kmer_walk.proofs.checker.make_ready.Given as goal

-- the lines before this one are read
abbrev pub invariant-loop-i : goal.invariant-loop-i
invariant-loop-i l = record {
  ready : AreReady l.nodes.k l.nodes.lines.now (lead_key l.nodes.lead.now) l.from l.i l.batch;
  long : length l.batch ≡ 64;
}
