use Rattle.std.proofs.Common.{◌≡◌, take}
use Rattle.std.specs.List.{fold}
use Rattle.bcl_words.specs.Hash.{hash_step}
use Rattle.bcl_words.proofs.hashing.hash.Given as goal

abbrev pub invariant-loop-word : goal.invariant-loop-word
invariant-loop-word l = l.h ≡ fold hash_step 0 (take l.word-index l.words)
