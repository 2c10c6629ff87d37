use Rattle.std.proofs.Common.{map, string_bytes}
use Rattle.bcl_settings.proofs.Reading.{named_behind, where_none}
use Rattle.bcl_settings.proofs.settings.spelled.Goals as goal

pub returns-in_err-options_in-clause-none : goal.returns-in_err-options_in-clause-none
returns-in_err-options_in-clause-none c =
    where_none c.from_residual-in_err-options_in.result _ (λ mode said spelled.
    let front = c.in_ok-mode.ensures.some in
    c.in_err-options_in.ensures.none said
    (named_behind (map string_bytes c.args.words.now) (map string_bytes c.in_ok-mode.rest.now) mode c.in_ok-mode.mode said front.0 front.1 spelled))
