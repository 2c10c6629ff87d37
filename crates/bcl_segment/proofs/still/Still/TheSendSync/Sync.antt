use denote.RattleType.{RattleType}
use denote.Param.Send.{IsSend, IsSync, part_keyless}
use Rattle.bcl_segment.specs.contracts.still.Still.{the_row}
use Rattle.bcl_segment.proofs.Stills.{still_send}

pub sync : (S V : RattleType) → IsSend S → IsSync (the_row S V)
sync S V s = record { shared = λ d b o ν q. part_keyless (the_row S V) (still_send S V s) q d b o }
