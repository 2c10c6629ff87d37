use denote.RattleType.{RattleType}
use denote.Param.Send.{IsSend}
use Rattle.bcl_segment.specs.contracts.still.Still.{the_row}
use Rattle.bcl_segment.proofs.Stills.{still_send}

pub send : (S V : RattleType) → IsSend S → IsSend (the_row S V)
send S V s = still_send S V s
