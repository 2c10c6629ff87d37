use Rattle.std.proofs.Common.{length, ap, ◌∙◌}
use Rattle.bcl_tally.proofs.Pairs.{one_left, one_again, each_of_one}
use Rattle.bcl_tally.proofs.tests.swaps.Goals as goal

pub swap-was-requires : goal.swap-was-requires
swap-was-requires c = record { of = (c.requires.dealt 0 c.in-Some.pass (one_left _ _ _ c.in-Some.ensures.items c.requires.one).1).0 }

pub returns-clause-one : goal.returns-clause-one
returns-clause-one c = ap length (one_again _ _ _ c.in_ok-push.ensures.items (one_left _ _ _ c.in-Some.ensures.items c.requires.one).0)

pub returns-clause-dealt : goal.returns-clause-dealt
returns-clause-dealt c = each_of_one _ _ _ (one_again _ _ _ c.in_ok-push.ensures.items (one_left _ _ _ c.in-Some.ensures.items c.requires.one).0)
    (c.swap-was.ensures.of, c.swap-was.ensures.stands.same.same_rank ∙ (c.requires.dealt 0 c.in-Some.pass (one_left _ _ _ c.in-Some.ensures.items c.requires.one).1).1)
