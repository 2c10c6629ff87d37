use Rattle.std.proofs.Common.{◌≡◌, ◌∙◌, None, drop, length-drop, sym, ap, arith}
use Rattle.std.specs.List.{position}
use Rattle.std.proofs.lemmas.List.{take_rest}
use Rattle.kmer_text.specs.Lines.{is_newline}
use Rattle.kmer_text.proofs.Cuts.{position_or_len-None}
use Rattle.kmer_text.proofs.lines.line_end.Goals as goal

pub returns-in-None-clause-place : goal.returns-in-None-clause-place
returns-in-None-clause-place c =
    let text = c.args.text.now in
    let rest = drop c.args.from text in
    let none : position is_newline rest ≡ None = ap (position is_newline) (sym (take_rest text c.args.from)) ∙ sym c.in-None.ensures in
    omega (arith, length-drop c.args.from text, position_or_len-None is_newline rest none)
