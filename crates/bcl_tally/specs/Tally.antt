-- The tally: its sequential object, what its promises permit, and how its words fit.
-- A rank's word is its number. A call in flight names the number that it got, which stays as only this rank may change it.
use Rattle.std.specs.Prelude.{◌≡◌, ℕ, ◌+◌, ◌%◌, ◌^◌, Bool, true, false, List, length, replicate, slice_index, slice_set}
use mathlib.Core.Option.{some}
use lib.ListN.{get_elem?}
use Rattle.bcl_tally.specs.declared.tally.Call.{Call}
use Rattle.bcl_tally.specs.declared.tally.Call.TheVariants.{Add, Swap}
use Rattle.bcl_tally.specs.declared.tally.Reply.{Reply}
use Rattle.bcl_tally.specs.declared.tally.Reply.TheVariants.{Was}
use Rattle.bcl_tally.specs.declared.tally.Note.{Note}
use Rattle.bcl_tally.specs.declared.tally.Note.TheVariants.{Rest, Got}

-- no call is in flight
abbrev pub is_rest : Note → Bool
is_rest Rest = true
is_rest (Got m) = false

-- the codes of the promises
abbrev pub owning : ℕ
owning = 2

abbrev pub anything : ℕ
anything = 9

abbrev pub ranks : ℕ → ℕ
ranks k = k

-- every rank has 0
abbrev pub start : ℕ → List ℕ
start k = replicate k 0

abbrev pub next : ℕ → List ℕ → Call → Reply × List ℕ
next k t (Add place n) = (Was (slice_index t place), slice_set t place ((slice_index t place + n) % 2 ^ 64))
next k t (Swap place n) = (Was (slice_index t place), slice_set t place n)

-- under Any any rank adds, and under Own a rank exchanges its own number
abbrev pub permits : ℕ → ℕ → ℕ → Call → Type 0
permits k promise rank (Add place n) = promise ≡ anything
permits k promise rank (Swap place n) = (promise ≡ owning) × (place ≡ rank)

abbrev pub fits : ℕ → ℕ → List ℕ → List ℕ → List Note → Type 0
fits k promise ws t notes = (length ws ≡ k) × (ws ≡ t) × ((r m : ℕ) → get_elem? notes r ≡ some (Got m) → (promise ≡ owning) × (slice_index ws r ≡ m))
