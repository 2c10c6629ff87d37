use Rattle.bcl_event.proofs.Presence.{inserted_present, present_stays}
use Rattle.bcl_event.proofs.laws.inserted_keys_are_present.Goals as goal

pub returns-clause-inserted : goal.returns-clause-inserted
returns-clause-inserted c = λ blocks width keys key. inserted_present blocks width keys key

pub returns-clause-stays : goal.returns-clause-stays
returns-clause-stays c = λ blocks width keys key other. present_stays blocks width keys key other
