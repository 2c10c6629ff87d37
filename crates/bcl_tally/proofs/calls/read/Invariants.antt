use Rattle.std.proofs.Common.{◌≡◌, [], slice_index}
use Rattle.bcl_tally.proofs.calls.read.Given as goal

abbrev pub ghosts-get : goal.ghosts-get
ghosts-get a = record { then = λ n t did _. (did ≡ []) × (n ≡ slice_index t a.about.now) }
