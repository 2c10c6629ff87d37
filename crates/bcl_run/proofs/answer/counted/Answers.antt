use Rattle.std.proofs.Common.{◌≡◌, ◌∙◌, ◌≤◌, ◌^◌, None, Err, ap, sym, length, arith, ⊎_elim}
use Rattle.std.proofs.lemmas.Bool.{cases_lt}
use Rattle.std.proofs.lemmas.Result.{err_from_is_err_and}
use Rattle.kmer_text.specs.Lines.{lines}
use Rattle.kmer_text.specs.Windows.{total}
use Rattle.kmer_text.specs.Letters.{bad_letter}
use Rattle.bcl_run.specs.Verdict.{Text}
use Rattle.bcl_run.proofs.Verdicts.{count_cut_excuse, letters_excuse, count_answers, none_named}
use Rattle.bcl_run.proofs.answer.counted.Goals as goal

pub returns-in_err-lines-clause-stop : goal.returns-in_err-lines-clause-stop
returns-in_err-lines-clause-stop g c =
    let p = err_from_is_err_and c.from_residual.result c.from_residual.ensures.1 in
    rw (p.1, p.2) (count_cut_excuse c.args.k c.args.min c.args.bytes.items c.in_err-lines.field-0.0 c.requires.short (λ e. c.in_err-lines.ensures.too_many.0 (ap Err e)))

pub returns-in_err-windows-clause-stop : goal.returns-in_err-windows-clause-stop
returns-in_err-windows-clause-stop g c =
    let p = err_from_is_err_and c.from_residual-in_err-windows.result c.from_residual-in_err-windows.ensures.1 in
    let all = lines c.args.bytes.items in
    let few : length all ≤ 2 ^ 22 = ⊎_elim (λ many. absurd (cc (c.in_ok-lines.ensures.too_many.1 many))) (λ few. few) (cases_lt (2 ^ 22) (length all)) in
    let fault = rw c.in_ok-lines.ensures.lines at c.in_err-windows.ensures in
    rw (p.1, p.2) (letters_excuse c.args.k c.args.min c.args.bytes.items c.requires.short few c.in_err-windows.field-0.0
    (λ line e. (fault.bad line).0 (ap Err e)) (λ e. fault.too_many.0 (ap Err e)))

pub returns-clause-text : goal.returns-clause-text
returns-clause-text g c =
    let all = lines c.args.bytes.items in
    let cut = c.in_ok-lines.ensures in
    let known = c.in_ok-windows.ensures in
    let few : length all ≤ 2 ^ 22 = ⊎_elim (λ many. absurd (cc (cut.too_many.1 many))) (λ few. few) (cases_lt (2 ^ 22) (length all)) in
    let good : bad_letter all ≡ None = ap bad_letter (sym cut.lines) ∙ none_named (bad_letter c.in_ok-lines.lines) (λ fault e. absurd (cc ((known.bad fault).1 e))) in
    let same : total c.args.k all ≡ total c.args.k c.in_ok-lines.lines = ap (total c.args.k) (sym cut.lines) in
    count_answers c.args.k c.args.min c.args.bytes.items c.requires.short few good (omega (arith, known.few, known.count, same))
    ∙ ap Text (sym (rw cut.lines at c.in_ok-text.ensures.text))
