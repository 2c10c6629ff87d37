use Rattle.std.proofs.Common.{◌≡◌, replicate}
use Rattle.bcl_gauge.proofs.Steps.{fresh}
use Rattle.bcl_gauge.proofs.calls.open.Goals as goal

pub new-requires-clause-fits : goal.new-requires-clause-fits
new-requires-clause-fits c = let full : c.in_ok-words.words.items ≡ replicate 1 18446744073709551615 = c.in_ok-words.ensures.items_if_clones_equal (λ y e. e) in
    fresh (record { ranks = c.args.ranks; floor = c.args.floor }) c.in_ok-words.words.items full c.ranges.floor.fits
