use Rattle.bcl_words.proofs.AnyOrder.{fold_any_order}
use Rattle.bcl_words.proofs.laws.any_order.Goals as goal

pub returns : goal.returns
returns g c =
    -- the laws, which hold in each thread, at this one
    let l = g.met.L.MergeLaw g.world.𝓛 g.world.𝓜 g.world.𝓡 ((λ s x. x), (λ x. x), (λ x. x), (λ x. x)) in
    fold_any_order g.V.Object.passes g.L.MergeLaw.op l.closed l.commutative l.associative
