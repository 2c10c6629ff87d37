use Rattle.std.proofs.Common.{rules}
use Rattle.bcl_buffer.specs.Flushes.{IsDrained}
use Rattle.bcl_buffer.proofs.Sides.{zip_each}
use Rattle.bcl_buffer.proofs.flushing.drain_side_by_side.Goals as goal

pub returns-clause-steps : goal.returns-clause-steps
returns-clause-steps g c =
    zip_each (λ k l. IsDrained c.args.lead.now g.K.Object.words g.V.Object.words g.L.MergeLaw.op (k.pass, k.buffer) (l.pass, l.buffer)) c.args.kits.now c.for_each_mut.new.s
    (search rules) (λ i d low. let each = (c.for_each_mut.ensures i d low).1 in let was = each.argument_is in let left = each.left in let call = each.call in search rules)
