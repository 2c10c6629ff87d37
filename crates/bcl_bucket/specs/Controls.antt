-- Control words: the state of a bucket in the bits 0 to 2, the home rank of its key in 8 to 15, and its readers in 16 to 31.
-- The other bits are 0.
use Rattle.std.specs.Prelude.{ℕ, ◌+◌, ◌*◌, ◌/◌, ◌%◌, ◌^◌, ◌==◌, Bool, ◌&&◌, nat_lt, if◌then◌else◌}
use Rattle.bcl_bucket.specs.declared.control.State.{State}
use Rattle.bcl_bucket.specs.declared.control.State.TheVariants.{Free, Reserved, Ready, Held}
use Rattle.bcl_bucket.specs.declared.control.Control.{Control}

abbrev pub code : State → ℕ
code Free = 0
code Reserved = 1
code Ready = 2
code Held = 3

-- the state of a code, which is below four
abbrev pub state_of : ℕ → State
state_of n = if n == 0 then Free else if n == 1 then Reserved else if n == 2 then Ready else Held

-- a word is a control word
abbrev pub is_control : ℕ → Bool
is_control w = nat_lt (w % 256) 4 && nat_lt w (2 ^ 32)

abbrev pub word_of : Control → ℕ
word_of c = code c.state + c.home * 256 + c.readers * 65536

-- what a control word says
abbrev pub control_of : ℕ → Control
control_of w = record { state = state_of (w % 256); home = w / 256 % 256; readers = w / 65536 }
