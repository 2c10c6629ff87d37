use Rattle.std.proofs.Common.{◌∙◌, ◌<◌, ◌-◌, ◌^◌, sym, ap, eqb, drop, arith, length-drop}
use Rattle.std.specs.List.{list_all}
use Rattle.std.proofs.lemmas.List.{take_all}
use Rattle.std.proofs.lemmas.List.Elements.{All-from_get_or}
use Rattle.bcl_words.proofs.WordsPass.{test_of_rest}
use Rattle.bcl_words.proofs.numbers.zeros_from.Goals as goal

pub returns : goal.returns
returns c =
    let n = c.args.place in let w = c.args.w.now in
    let rest = take_all (8 - n) (drop n w) (omega (arith, length-drop n w, c.told-w)) in
    c.are_zeros.ensures
    ∙ ap (list_all (λ x. eqb x 0)) rest
    ∙ sym (test_of_rest n w c.told-w (All-from_get_or (λ x. x < 2 ^ 64) w 0 (λ i _. c.fits-w i)))
