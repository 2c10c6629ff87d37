use Rattle.std.proofs.Common.{length, sym, ap, ◌∙◌, arith}
use Rattle.bcl_bucket.proofs.Rounds.{left_behind}
use Rattle.bcl_bucket.proofs.path.PathIterator.next.Goals as goal

pub returns-clause-steps : goal.returns-clause-steps
returns-clause-steps c = let p = c.self.inside in
    sym c.self.view_is ∙ left_behind p.places p.place p.left c.next_place-self-inside.result c.if-self-eq0.false c.self.invariant c.next_place-self-inside.ensures.next

pub returns-clause-goes : goal.returns-clause-goes
returns-clause-goes c = let p = c.self.inside in
    let left = ap length (sym c.self.view_is ∙ left_behind p.places p.place p.left c.next_place-self-inside.result c.if-self-eq0.false c.self.invariant c.next_place-self-inside.ensures.next) in
    record { on = λ finite. (tt, finite, omega (arith, left)); keeps = tt; rests = λ _. tt }
