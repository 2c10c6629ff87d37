use Rattle.bcl_phase.specs.Parts.{home_key}
use Rattle.bcl_gauge.proofs.Steps.{reads}
use Rattle.bcl_gauge.proofs.calls.read.Goals as goal

pub get-requires-clause-step : goal.get-requires-clause-step
get-requires-clause-step c = reads (home_key c.args.home.now) _
