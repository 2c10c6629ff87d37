use Rattle.bcl_message.specs.Message.{message_of}
use Rattle.bcl_run.proofs.Told.{tells}
use Rattle.bcl_run.proofs.program.stopped.Goals as goal

pub returns-clause-told : goal.returns-clause-told
returns-clause-told g c =
    let E = g.E.Sink in
    let err = c.args.err.now in
    let err' = c.tell.new.err in
    tells (E.faults err) (E.faults err') (E.taken err) (E.taken err') c.tell.result (message_of c.args.stop) c.tell.ensures.message c.tell.ensures.failed
