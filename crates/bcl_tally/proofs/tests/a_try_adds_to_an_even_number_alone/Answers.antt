use Rattle.std.proofs.Common.{◌≡◌, length, ◌∙◌}
use Rattle.bcl_tally.proofs.Pairs.{one_left}
use Rattle.bcl_tally.proofs.tests.a_try_adds_to_an_even_number_alone.Goals as goal

pub try_add-requires-clause-of : goal.try_add-requires-clause-of
try_add-requires-clause-of g c = let all = c.in-Ok.ensures.begins.begins.all in
    let one : length c.in-Ok.passes.items ≡ 1 = all.count ∙ ((λ i. (c.in-Ok.lead.laid.as_layout i).ranks) ∙ (c.in-Ok.ensures.begins.same.1 ∙ c.in_ok-home.ensures.key)) in
    (all.of 0 _ (one_left _ _ _ c.in-Some.ensures.items one).1).0
