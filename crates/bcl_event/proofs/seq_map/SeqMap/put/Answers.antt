use Rattle.std.proofs.Common.{◌≡◌, length, arith, false}
use Rattle.std.specs.Prelude.{◌==◌}
use Rattle.std.proofs.lemmas.Grind.{common_steps}
use Rattle.std.proofs.lemmas.List.{length-map}
use Rattle.bcl_event.proofs.Entries.{pair_put}
use Rattle.bcl_event.proofs.seq_map.SeqMap.put.Goals as goal

pub returns-clause-state : goal.returns-clause-state
returns-clause-state g c =
    let words = g.V.Object.words in
    let map = c.self.inside in
    let entries = c.in_ok-insert.ensures.entries in
    let differ = c.if-len-self.false in
    let room : (length c.args.self.now.pairs == c.args.self.now.capacity) ≡ false = grind (arith, common_steps, length-map) in
    rw room (pair_put words map.capacity map.values.entries c.args.self.now c.self.view_is c.args.key c.args.value c.insert.new.self.entries entries)
