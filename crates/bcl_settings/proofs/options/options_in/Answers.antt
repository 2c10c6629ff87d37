use Rattle.std.proofs.Common.{◌≡◌, ◌∙◌, sym, length, map, string_bytes, [], arith, ap}
use Rattle.std.specs.List.{flat_map}
use Rattle.std.proofs.lemmas.List.{length-map}
use Rattle.bcl_settings.specs.Options.{option_words}
use Rattle.bcl_settings.proofs.Reading.{read_more, goes_on, goes_on_with, where_none}
use Rattle.bcl_settings.proofs.options.options_in.Goals as goal

pub returns-in_err-option-clause-none : goal.returns-in_err-option-clause-none
returns-in_err-option-clause-none c =
    where_none c.from_residual.result _ (λ said names.
    let rest = c.loop-rest.rest.now in
    let some : map string_bytes rest ≡ [] → ⊥ = λ none. let empty = sym (length-map rest string_bytes) ∙ ap length none in grind (arith, empty) in
    let on = goes_on (map string_bytes c.args.words.now) (map string_bytes rest) c.loop-rest.said said c.loop-rest.invariant names some in
    c.in_err-option.ensures.none on.0 (flat_map option_words on.1) on.2 on.3)

pub returns-in_err-said-clause-none : goal.returns-in_err-said-clause-none
returns-in_err-said-clause-none c =
    where_none c.from_residual-in_err-said.result _ (λ said names.
    let front = c.in_ok-option.ensures.some in
    let on = goes_on_with (map string_bytes c.args.words.now) (map string_bytes c.loop-rest.rest.now) (map string_bytes c.in_ok-option.behind.now) c.loop-rest.said said c.in_ok-option.option
    c.loop-rest.invariant names front.0 front.1 in
    c.in_err-said.ensures.none said on.0 on.1)

pub loop-rest-preserved : goal.loop-rest-preserved
loop-rest-preserved c =
    let front = c.in_ok-option.ensures.some in
    read_more (map string_bytes c.args.words.now) (map string_bytes c.loop-rest.rest.now) (map string_bytes c.in_ok-option.behind.now) c.loop-rest.said c.in_ok-said.said c.in_ok-option.option
    c.loop-rest.invariant front.0 front.1 c.in_ok-said.ensures.some
