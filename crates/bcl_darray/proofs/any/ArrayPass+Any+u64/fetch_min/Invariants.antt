use Rattle.bcl_event.specs.declared.array.ArrayCall.TheVariants.{FetchMin}
use Rattle.bcl_event.specs.declared.array.ArrayReply.TheVariants.{Was}
use Rattle.bcl_darray.specs.declared.array.Note.TheVariants.{Rest}
use Rattle.bcl_darray.specs.Calls.{Makes}
use Rattle.bcl_darray.proofs.any.ArrayPass+Any+u64.fetch_min.Given as goal

abbrev pub ghosts-fetch_min : goal.ghosts-fetch_min
ghosts-fetch_min a = record { then = λ n items did y. Makes (FetchMin a.about.now.0 a.about.now.1) (Was n) Rest items did y }
