use Rattle.std.proofs.Common.{◌≡◌, take}
use Rattle.kmer_text.specs.Letters.{are_letters}
use Rattle.kmer_text.proofs.check.are_letters.Given as goal

-- whether those so far are letters
abbrev pub invariant-loop-byte : goal.invariant-loop-byte
invariant-loop-byte l = l.all ≡ are_letters (take l.byte-index l.line)
