use Rattle.std.proofs.Common.{◌≡◌, []}
use Rattle.bcl_gauge.proofs.calls.read.Given as goal

abbrev pub ghosts-get : goal.ghosts-get
ghosts-get a = record { then = λ n t did _. (did ≡ []) × (n ≡ t) }
