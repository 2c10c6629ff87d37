use Rattle.bcl_event.specs.declared.array.ArrayCall.TheVariants.{FetchAdd}
use Rattle.bcl_event.specs.declared.array.ArrayReply.TheVariants.{Was}
use Rattle.bcl_darray.specs.declared.array.Note.TheVariants.{Rest}
use Rattle.bcl_darray.specs.Calls.{Makes}
use Rattle.bcl_darray.proofs.any.ArrayPass+Any+u64.fetch_add.Given as goal

abbrev pub ghosts-fetch_add : goal.ghosts-fetch_add
ghosts-fetch_add a = record { then = λ n items did y. Makes (FetchAdd a.about.now.0 a.about.now.1) (Was n) Rest items did y }
