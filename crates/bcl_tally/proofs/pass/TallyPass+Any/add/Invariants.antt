use Rattle.bcl_tally.specs.declared.tally.Reply.TheVariants.{Was}
use Rattle.bcl_tally.specs.declared.tally.Note.TheVariants.{Rest}
use Rattle.bcl_tally.specs.Calls.{Makes}
use Rattle.bcl_tally.proofs.pass.TallyPass+Any.add.Given as goal

abbrev pub ghosts-fetch_add : goal.ghosts-fetch_add
ghosts-fetch_add a = record { then = λ n t did y. Makes a.about.now (Was n) Rest t did y }
