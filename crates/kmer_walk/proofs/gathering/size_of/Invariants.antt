use Rattle.std.proofs.Common.{◌≡◌, ◌-◌, ◌^◌, min, take}
use Rattle.kmer_walk.specs.Texts.{size_of}
use Rattle.kmer_walk.proofs.gathering.size_of.Given as goal

-- the first so many parts are counted
abbrev pub invariant-loop-part : goal.invariant-loop-part
invariant-loop-part l = l.size ≡ min (size_of (take l.part-index l.parts)) (2 ^ 64 - 1)
