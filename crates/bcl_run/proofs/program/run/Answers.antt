use Rattle.std.proofs.Common.{Err, ap, sym, ◌∙◌}
use Rattle.std.proofs.lemmas.Result.{err_from_is_err_and}
use Rattle.bcl_run.specs.Owed.{devices}
use Rattle.bcl_run.specs.Verdict.{Text}
use Rattle.bcl_run.proofs.Verdicts.{read_owes}
use Rattle.bcl_run.proofs.Owing.{all_read, excused, owes_all, owes_front, of_left}
use Rattle.bcl_run.proofs.program.run.Goals as goal

pub returns-in_err-bytes-clause-owed : goal.returns-in_err-bytes-clause-owed
returns-in_err-bytes-clause-owed g c words asks =
    let S = g.S.Source in
    let O = g.O.Sink in
    let d = devices S.left S.faults O.taken O.faults c.args.src.now c.read_all.new.src c.args.out.now c.args.out.now in
    let p = err_from_is_err_and c.from_residual.result c.from_residual.ensures.1 in
    let e = c.in_err-bytes.ensures in
    rw (p.1, p.2) (read_owes words d c.args.settings.now c.in_err-bytes.field-0.0
    asks (λ f. e.failed (ap Err f)) (λ other. e.no_fault (λ f. other (cc))) (λ f. e.too_large (ap Err f)))

pub returns-in_err-answer-clause-owed : goal.returns-in_err-answer-clause-owed
returns-in_err-answer-clause-owed g c words asks =
    let S = g.S.Source in
    let O = g.O.Sink in
    let d = devices S.left S.faults O.taken O.faults c.args.src.now c.read_all.new.src c.args.out.now c.args.out.now in
    let p = err_from_is_err_and c.from_residual-in_err-answer.result c.from_residual-in_err-answer.ensures.1 in
    let e = c.in_ok-bytes.ensures in
    let bytes = c.in_ok-bytes.bytes.items in
    let read = all_read d.left_before d.left_after bytes e.bytes e.end in
    rw (p.1, p.2) (excused words c.args.settings.now asks bytes d read c.in_err-answer.field-0.0 (e.no_fault (λ f. cc)) c.in_err-answer.ensures.stop)

pub returns-in_err-write_all-clause-owed : goal.returns-in_err-write_all-clause-owed
returns-in_err-write_all-clause-owed g c words asks =
    let S = g.S.Source in
    let O = g.O.Sink in
    let d = devices S.left S.faults O.taken O.faults c.args.src.now c.read_all.new.src c.args.out.now c.write_all.new.out in
    let p = err_from_is_err_and c.from_residual-in_err-write_all.result c.from_residual-in_err-write_all.ensures.1 in
    let e = c.in_ok-bytes.ensures in
    let bytes = c.in_ok-bytes.bytes.items in
    let read = all_read d.left_before d.left_after bytes e.bytes e.end in
    let taken = c.in_err-write_all.ensures.front in
    let text = c.in_ok-answer.ensures.text ∙ ap Text (sym c.deref.ensures.value) in
    rw (p.1, p.2) (c.in_err-write_all.ensures.failed, owes_front words c.args.settings.now asks bytes d read c.deref.result.now taken.0 text taken.2)

pub returns-clause-owed : goal.returns-clause-owed
returns-clause-owed g c words asks =
    let S = g.S.Source in
    let O = g.O.Sink in
    let d = devices S.left S.faults O.taken O.faults c.args.src.now c.read_all.new.src c.args.out.now c.write_all.new.out in
    let e = c.in_ok-bytes.ensures in
    let bytes = c.in_ok-bytes.bytes.items in
    let read = all_read d.left_before d.left_after bytes e.bytes e.end in
    let text = c.in_ok-answer.ensures.text ∙ ap Text (sym c.deref.ensures.value) in
    (e.no_fault (λ f. cc), e.end, owes_all words c.args.settings.now asks bytes d read c.deref.result.now text c.in_ok-write_all.ensures.all)

pub returns-clause-book : goal.returns-clause-book
returns-clause-book g c =
    let S = g.S.Source in
    let e = c.in_ok-bytes.ensures in
    let bytes = c.in_ok-bytes.bytes.items in
    of_left (S.left c.args.src.now) bytes (all_read (S.left c.args.src.now) (S.left c.read_all.new.src) bytes e.bytes e.end)
    c.args.settings.now c.in_ok-answer.answer.book c.in_ok-answer.ensures.book
