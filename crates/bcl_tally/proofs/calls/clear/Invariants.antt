use Rattle.std.proofs.Common.{◌≡◌, [], ◌∷◌}
use Rattle.bcl_tally.specs.declared.tally.Call.TheVariants.{Swap}
use Rattle.bcl_tally.proofs.calls.clear.Given as goal

abbrev pub ghosts-put : goal.ghosts-put
ghosts-put a = record { then = λ _ t did _. did ≡ Swap a.about.now.0 0 ∷ Swap a.about.now.0 a.about.now.1 ∷ [] }
