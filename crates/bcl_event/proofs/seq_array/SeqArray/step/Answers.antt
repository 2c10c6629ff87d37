use Rattle.std.proofs.Common.{refl, arith}
use Rattle.std.proofs.lemmas.Grind.{common_steps}
use Rattle.bcl_event.proofs.Lists.{set_in_words}
use Rattle.bcl_event.proofs.seq_array.SeqArray.step.Goals as goal

pub returns-in-Write-clause-state : goal.returns-in-Write-clause-state
returns-in-Write-clause-state g c = rw c.in-Write.is (set_in_words g.T.Object.words c.self.inside.items.items c.args.self.now c.self.view_is c.in-Write.place c.in-Write.item _ refl)

pub returns-in-FetchAdd-clause-state : goal.returns-in-FetchAdd-clause-state
returns-in-FetchAdd-clause-state g c = rw c.in-FetchAdd.is (set_in_words g.T.Object.words c.self.inside.items.items c.args.self.now c.self.view_is c.in-FetchAdd.place c.value_of.result _ (grind (arith, common_steps)))

pub returns-in-FetchMin-clause-state : goal.returns-in-FetchMin-clause-state
returns-in-FetchMin-clause-state g c = rw c.in-FetchMin.is (set_in_words g.T.Object.words c.self.inside.items.items c.args.self.now c.self.view_is c.in-FetchMin.place c.value_of-in-FetchMin.result _ (grind (arith, common_steps)))
