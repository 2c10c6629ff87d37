use Rattle.std.proofs.Common.{subst}
use Rattle.bcl_settings.specs.Settings.{IsAsked}
use Rattle.bcl_settings.proofs.Asked.{plan_asked, contigs_plan_asked}
use Rattle.bcl_run.proofs.answer.answer.Goals as goal

pub counted-requires-clause-ranks : goal.counted-requires-clause-ranks
counted-requires-clause-ranks g c κs within =
    let n = c.in-Count in
    let asked = subst IsAsked n.is c.requires.asked in
    let known = plan_asked asked.0 n.k n.ranks n.min n.choice n.hist asked.1 in
    (known.0, known.1)

pub walked-requires-clause-ranks : goal.walked-requires-clause-ranks
walked-requires-clause-ranks g c κs within =
    let n = c.in-Contigs in
    let asked = subst IsAsked n.is c.requires.asked in
    contigs_plan_asked asked.0 n.k n.ranks n.choice asked.1
