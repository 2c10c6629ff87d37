use Rattle.std.proofs.Common.{◌≡◌, []}
use Rattle.bcl_tally.specs.declared.tally.Note.TheVariants.{Rest}
use Rattle.bcl_tally.specs.Guarded.{Exchanges}
use Rattle.bcl_tally.proofs.guarded.TallyPass+Any.try_add.Given as goal

abbrev pub ghosts-get : goal.ghosts-get
ghosts-get a = record { then = λ _ _ did y. (did ≡ []) × (y ≡ Rest) }

abbrev pub ghosts-cas : goal.ghosts-cas
ghosts-cas a = record { then = λ m t did y. Exchanges a.about.now.0 a.about.now.1 m t did y }
