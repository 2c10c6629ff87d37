use Rattle.std.proofs.Common.{length, map, string_bytes}
use Rattle.bcl_settings.proofs.Reading.{Read}
use Rattle.bcl_settings.proofs.options.options_in.Given as goal

-- some options are read, and the other words are left
abbrev pub invariant-loop-rest : goal.invariant-loop-rest
invariant-loop-rest l = Read (map string_bytes l.words) l.said (map string_bytes l.rest)

abbrev pub decreases-loop-rest : goal.decreases-loop-rest
decreases-loop-rest l = length l.rest
