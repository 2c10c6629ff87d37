use Rattle.std.proofs.Common.{All}
use Rattle.bcl_map.specs.Calls.{IsMine}
use Rattle.bcl_phase.specs.Deals.{view}
use Rattle.map_bench.proofs.store.own_pairs.Given as goal

abbrev pub invariant-loop-pair : goal.invariant-loop-pair
invariant-loop-pair g l = All (λ pair. IsMine (view l.pass.pass) (g.K.Object.words pair.0)) l.own.items
