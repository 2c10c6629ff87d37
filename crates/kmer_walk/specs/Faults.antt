-- The first fault that the parts of a superstep met, in the order of the ranks.
use Rattle.std.specs.Prelude.{◌≡◌, List, ◌∷◌, ◌++◌, All, Result, Err, IsOk}
use Rattle.kmer_paths.specs.declared.fault.WalkFault.{WalkFault}

pub record FirstFault {C : Type 0} (ended : C → Result (Unit {0}) WalkFault) (fault : WalkFault) (kits : List C) : Type 0 where
  pub before : List C
  pub here : C
  pub behind : List C
  pub all : kits ≡ before ++ here ∷ behind
  pub good : All (λ c. IsOk (ended c)) before
  pub met : ended here ≡ Err fault
