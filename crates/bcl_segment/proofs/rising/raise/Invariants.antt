use Rattle.std.proofs.Common.{◌≡◌}
use Rattle.bcl_segment.proofs.rising.raise.Given as goal

abbrev pub ghosts-cas : goal.ghosts-cas
ghosts-cas a = record { then = λ _ _ _ _ found w. found ≡ a.old → w ≡ a.new }
