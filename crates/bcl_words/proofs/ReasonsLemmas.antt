-- Which reason is the first.
use Rattle.std.proofs.Common.{◌≡◌, Bool, true, false, List, ◌∷◌, Option, Some, None, ap}
use Rattle.std.specs.Option.{option_or}
use Rattle.std.proofs.lemmas.Bool.{cond-true, cond-false}
use Rattle.bcl_words.specs.Reasons.{when, first_of}

-- a reason that applies comes before those behind it
pub first_of-applies : {A : Type 0} (test : Bool) (reason : A) (reasons : List (Option A)) → test ≡ true → first_of (when test reason ∷ reasons) ≡ Some reason
first_of-applies test reason reasons h = ap (λ o. option_or o (first_of reasons)) (cond-true test (Some reason) None h)

-- one that doesn't is passed over
pub first_of-passes : {A : Type 0} (test : Bool) (reason : A) (reasons : List (Option A)) → test ≡ false → first_of (when test reason ∷ reasons) ≡ first_of reasons
first_of-passes test reason reasons h = ap (λ o. option_or o (first_of reasons)) (cond-false test (Some reason) None h)
