use Rattle.bcl_settings.proofs.Reading.{once}
use Rattle.bcl_settings.proofs.settings.reads_once.Goals as goal

pub returns : goal.returns
returns c = once
