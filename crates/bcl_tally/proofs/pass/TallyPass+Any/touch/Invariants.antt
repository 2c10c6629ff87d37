use Rattle.std.proofs.Common.{◌≡◌, []}
use Rattle.bcl_tally.specs.declared.tally.Note.TheVariants.{Rest}
use Rattle.bcl_tally.proofs.pass.TallyPass+Any.touch.Given as goal

abbrev pub ghosts-cas : goal.ghosts-cas
ghosts-cas a = record { then = λ _ _ did y. (did ≡ []) × (y ≡ Rest) }

abbrev pub ghosts-fetch_sub : goal.ghosts-fetch_sub
ghosts-fetch_sub a = record { then = λ _ _ did y. (did ≡ []) × (y ≡ Rest) }

abbrev pub ghosts-fetch_or : goal.ghosts-fetch_or
ghosts-fetch_or a = record { then = λ _ _ did y. (did ≡ []) × (y ≡ Rest) }

abbrev pub ghosts-fetch_min : goal.ghosts-fetch_min
ghosts-fetch_min a = record { then = λ _ _ did y. (did ≡ []) × (y ≡ Rest) }
