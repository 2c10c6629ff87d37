use Rattle.bcl_words.specs.Numbers.{one_word}
use Rattle.bcl_event.specs.declared.array.ArrayCall.TheVariants.{Read}
use Rattle.bcl_event.specs.declared.array.ArrayReply.TheVariants.{Value}
use Rattle.bcl_darray.specs.declared.array.Note.TheVariants.{Rest}
use Rattle.bcl_darray.specs.Calls.{Makes}
use Rattle.bcl_darray.proofs.any.ArrayPass+Any+u64.read.Given as goal

abbrev pub ghosts-get : goal.ghosts-get
ghosts-get a = record { then = λ n items did y. Makes (Read a.about.now) (Value (one_word n)) Rest items did y }
