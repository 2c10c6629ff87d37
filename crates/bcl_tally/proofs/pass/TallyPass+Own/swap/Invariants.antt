use Rattle.bcl_tally.specs.declared.tally.Reply.TheVariants.{Was}
use Rattle.bcl_tally.specs.declared.tally.Note.TheVariants.{Rest}
use Rattle.bcl_tally.specs.Calls.{Makes, Gets}
use Rattle.bcl_tally.proofs.pass.TallyPass+Own.swap.Given as goal

abbrev pub ghosts-get : goal.ghosts-get
ghosts-get a = record { then = Gets }

abbrev pub ghosts-put : goal.ghosts-put
ghosts-put a = record { then = λ _ t did y. Makes a.about.now.0 (Was a.about.now.1) Rest t did y }
