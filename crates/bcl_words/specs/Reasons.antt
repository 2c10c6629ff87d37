-- The first of several reasons that applies.
-- A reason is there where its test passes.
use Rattle.std.specs.Prelude.{Bool, List, [], ◌∷◌, Option, Some, None, if◌then◌else◌}
use Rattle.std.specs.Option.{option_or}

abbrev pub when : {A : Type 0} → Bool → A → Option A
when test reason = if test then Some reason else None

abbrev pub first_of : {A : Type 0} → List (Option A) → Option A
first_of [] = None
first_of (reason ∷ reasons) = option_or reason (first_of reasons)
