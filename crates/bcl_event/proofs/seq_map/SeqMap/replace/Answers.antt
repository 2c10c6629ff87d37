use Rattle.std.proofs.Common.{◌≡◌, ap, sym, subst}
use Rattle.std.specs.Prelude.{IsSome, None}
use Rattle.std.specs.Option.{option_copied_mut}
use Rattle.std.proofs.lemmas.Bool.{false≢true}
use Rattle.bcl_event.specs.Map.{value_at}
use Rattle.bcl_event.proofs.Entries.{value_is, value_replaced}
use Rattle.bcl_event.proofs.seq_map.SeqMap.replace.Goals as goal
use Rattle.bcl_event.proofs.seq_map.SeqMap.replace.Goals.{in-Some, in_default}

pub returns-clause-state : goal.returns-clause-state
returns-clause-state g c =
    let words = g.V.Object.words in
    let key = c.args.key.now in
    let map = c.self.inside in
    elim c.match-get_mut.branch [
      | in-Some w ↦
          let written = (c.get_mut.follows.holds c.args.value).0 in
          rw w.self-inside-is (value_replaced words map.capacity map.values.entries c.args.self.now c.self.view_is key c.args.value (c.get_mut.follows.lender c.args.value).entries written)
      | in_default w ↦
          let none : value_at key c.args.self.now.pairs ≡ None =
          sym (value_is words map.capacity map.values.entries c.args.self.now c.self.view_is key None (option_copied_mut c.get_mut.result) (sym (ap option_copied_mut w.in_default.is)) c.get_mut.ensures.value) in
          absurd (false≢true (subst IsSome none c.requires.present))
    ]
