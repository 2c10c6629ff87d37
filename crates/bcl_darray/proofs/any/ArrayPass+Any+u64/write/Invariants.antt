use Rattle.bcl_words.specs.Numbers.{one_word}
use Rattle.bcl_event.specs.declared.array.ArrayCall.TheVariants.{Write}
use Rattle.bcl_event.specs.declared.array.ArrayReply.TheVariants.{Done}
use Rattle.bcl_darray.specs.declared.array.Note.TheVariants.{Rest}
use Rattle.bcl_darray.specs.Calls.{Makes}
use Rattle.bcl_darray.proofs.any.ArrayPass+Any+u64.write.Given as goal

abbrev pub ghosts-put : goal.ghosts-put
ghosts-put a = record { then = λ _ items did y. Makes (Write a.about.now.0 (one_word a.about.now.1)) Done Rest items did y }
