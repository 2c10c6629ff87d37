use Rattle.std.proofs.Common.{◌∙◌, length, arith, sym, ap}
use Rattle.kmer_text.proofs.Numbers.{digit_of-lt}
use Rattle.kmer_text.proofs.Rolling.{front_room, rolls}
use Rattle.kmer_text.proofs.windows.WindowsIterator.next.Goals as goal

pub overflow_mul-bits : goal.overflow_mul-bits
overflow_mul-bits c =
    let s = c.self.inside in
    omega (arith, front_room s.k s.last s.line.now c.self.invariant.0 c.self.invariant.1, c.self.invariant.2)

pub overflow_add-bits : goal.overflow_add-bits
overflow_add-bits c =
    let s = c.self.inside in
    omega (arith, front_room s.k s.last s.line.now c.self.invariant.0 c.self.invariant.1, c.self.invariant.2, c.digit.ensures, digit_of-lt c.in_ok-letter.field-0.now)

pub invariant_of-self : goal.invariant_of-self
invariant_of-self c =
    let s = c.self.inside in
    let inv = c.self.invariant in
    let looked = c.in_ok-letter.ensures.lookup in
    let step = rolls s.k s.last s.front c.in_ok-letter.field-0.now c.digit.result s.line.now inv.0 inv.1 inv.2 looked.3.0 (looked.3.1 0) c.digit.ensures in
    (inv.0, omega (arith, inv.1), step.front)

pub returns-clause-steps : goal.returns-clause-steps
returns-clause-steps c =
    let s = c.self.inside in
    let inv = c.self.invariant in
    let looked = c.in_ok-letter.ensures.lookup in
    let step = rolls s.k s.last s.front c.in_ok-letter.field-0.now c.digit.result s.line.now inv.0 inv.1 inv.2 looked.3.0 (looked.3.1 0) c.digit.ensures in
    sym c.self.view_is ∙ step.windows

pub returns-clause-goes : goal.returns-clause-goes
returns-clause-goes c =
    let s = c.self.inside in
    let inv = c.self.invariant in
    let looked = c.in_ok-letter.ensures.lookup in
    let step = rolls s.k s.last s.front c.in_ok-letter.field-0.now c.digit.result s.line.now inv.0 inv.1 inv.2 looked.3.0 (looked.3.1 0) c.digit.ensures in
    let left = ap length (sym c.self.view_is ∙ step.windows) in
    record { on = λ finite. (tt, finite, omega (arith, left)); keeps = tt; rests = λ _. tt }
