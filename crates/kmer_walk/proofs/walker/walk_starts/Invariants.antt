use Rattle.std.proofs.Common.{◌≡◌, ◌+◌, ◌^◌, length, map, take}
use Rattle.bcl_phase.specs.Parts.{lead_view}
use Rattle.bcl_map.specs.Parts.{lead_key, pass_view, IsOf}
use Rattle.kmer_paths.specs.Contigs.{contig, text_of}
use Rattle.kmer_walk.specs.Finds.{Asks}
use Rattle.kmer_walk.specs.Texts.{AreTexts, MakesWalks}
use Rattle.kmer_walk.proofs.walker.walk_starts.Given as goal

-- the walks from the starts so far are made, their texts are there, and the room is what these leave
abbrev pub invariant-loop-i : goal.invariant-loop-i
invariant-loop-i l = record {
  texts : AreTexts (map (contig l.nodes.k l.nodes.lines.now) (take l.i l.starts)) l.texts.bytes.items l.texts.ends.items;
  room : l.room + length (text_of (map (contig l.nodes.k l.nodes.lines.now) (take l.i l.starts))) ≡ 2 ^ 26;
  walks : MakesWalks l.nodes.k l.nodes.lines.now (lead_key l.nodes.lead.now) (take l.i l.starts) (pass_view l.fn.pass) (pass_view l.pass);
  asks : Asks (lead_view l.nodes.lead.now.lead).start (pass_view l.pass);
  of : IsOf l.pass l.nodes.lead.now;
}
