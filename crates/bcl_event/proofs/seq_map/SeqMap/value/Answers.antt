use Rattle.std.specs.Option.{option_copied}
use Rattle.bcl_event.proofs.Entries.{value_is}
use Rattle.bcl_event.proofs.seq_map.SeqMap.value.Goals as goal

pub returns : goal.returns
returns g c =
    let map = c.self.inside in
    value_is g.V.Object.words map.capacity map.values.entries c.args.self.now c.self.view_is c.args.key.now c.copied.result (option_copied c.get.result) c.copied.ensures c.get.ensures.value
