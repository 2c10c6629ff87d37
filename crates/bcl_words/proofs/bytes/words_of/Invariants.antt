use Rattle.std.proofs.Common.{◌≡◌, ◌-◌, ◌++◌, replicate}
use Rattle.bcl_words.specs.Bytes.{byte_words}
use Rattle.bcl_words.proofs.bytes.words_of.Given as goal

abbrev pub invariant-loop-i : goal.invariant-loop-i
invariant-loop-i l = l.words ≡ byte_words l.i l.bytes ++ replicate (8 - l.i) 0
