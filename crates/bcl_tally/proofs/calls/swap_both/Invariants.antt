use Rattle.std.proofs.Common.{◌≡◌, [], ◌∷◌}
use Rattle.bcl_tally.specs.declared.tally.Call.TheVariants.{Swap}
use Rattle.bcl_tally.proofs.calls.swap_both.Given as goal

abbrev pub ghosts-put_both : goal.ghosts-put_both
ghosts-put_both a = record { then = λ _ t did _. did ≡ Swap a.about.now.0.0 a.about.now.0.1 ∷ Swap a.about.now.1.0 a.about.now.1.1 ∷ [] }
