use Rattle.std.proofs.Common.{map, string_bytes}
use Rattle.bcl_settings.proofs.Reading.{not_offered, asks}
use Rattle.bcl_settings.proofs.settings.settings_of.Goals as goal

pub returns-in_default : goal.returns-in_default
returns-in_default c settings p = c.in_default.ensures.none p.mode p.said p.spelled

pub returns-then-not-is_offered : goal.returns-then-not-is_offered
returns-then-not-is_offered c =
    not_offered (map string_bytes c.args.words.now) c.in-Some.mode c.in-Some.said c.in-Some.ensures.some (λ offered.
    let yes = c.is_offered.ensures.no offered in
    absurd (cc (yes, c.if-not-is_offered.true)))

pub returns : goal.returns
returns c = asks (map string_bytes c.args.words.now) c.in-Some.mode c.in-Some.said c.in-Some.ensures.some c.with_options.result (c.is_offered.ensures.yes c.if-not-is_offered.false) c.with_options.ensures
