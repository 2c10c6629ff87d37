use Rattle.bcl_words.specs.Numbers.{one_word}
use Rattle.bcl_phase.specs.Parts.{lead_view}
use Rattle.bcl_map.specs.Calls.{reply}
use Rattle.bcl_map.specs.Parts.{lead_key, pass_view}
use Rattle.kmer_walk.specs.Fills.{words_of_node}
use Rattle.kmer_walk.proofs.Finding.{still_asks, find_is}
use Rattle.kmer_walk.proofs.nodes.Nodes.find.Goals as goal

pub returns-clause-first : goal.returns-clause-first
returns-clause-first c =
    let nodes = c.args.self.now in
    let history = (lead_view nodes.lead.now.lead).start in
    find_is nodes.k nodes.lines.now (lead_key nodes.lead.now) history (pass_view c.args.pass.now) (pass_view c.find_from.new.self) c.args.key c.find_from.result
    c.requires.asks c.find_from.ensures.stands nodes.firsts c.requires.key

pub returns-clause-asks : goal.returns-clause-asks
returns-clause-asks c =
    let nodes = c.args.self.now in
    still_asks (lead_key nodes.lead.now) (lead_view nodes.lead.now.lead).start (pass_view c.args.pass.now) (pass_view c.find_from.new.self) (one_word c.args.key)
    (reply words_of_node c.find_from.result) c.requires.asks c.find_from.ensures.stands
