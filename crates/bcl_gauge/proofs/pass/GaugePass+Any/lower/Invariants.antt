use Rattle.std.proofs.Common.{◌≡◌, [], ◌∷◌}
use Rattle.bcl_gauge.specs.declared.gauge.Call.TheVariants.{Lower}
use Rattle.bcl_gauge.proofs.pass.GaugePass+Any.lower.Given as goal

abbrev pub ghosts-fetch_min : goal.ghosts-fetch_min
ghosts-fetch_min a = record { then = λ _ _ did _. did ≡ Lower a.about.now ∷ [] }
