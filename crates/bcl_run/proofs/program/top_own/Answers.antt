use Rattle.std.proofs.Common.{Err, refl, ap, map, string_bytes}
use Rattle.bcl_run.proofs.Headlines.{is_usage, done, ended_without}
use Rattle.bcl_run.proofs.program.top_own.Goals as goal

pub returns-in-Ok : goal.returns-in-Ok
returns-in-Ok g c =
    let S = g.S.Source in
    let O = g.O.Sink in
    let E = g.E.Sink in
    let words = map string_bytes c.args.words.now in
    record {
      headline = done S.left S.faults O.taken O.faults E.taken E.faults words c.args.src.now c.run.new.src c.args.out.now c.run.new.out c.args.err.now c.args.err.now (record { status = 0; book = c.in-Ok.book })
          c.in-Some.settings c.in-Some.ensures refl (c.in-Ok.ensures.owed words c.in-Some.ensures) c.in-Ok.ensures.book refl;
    }

pub returns-in-Err : goal.returns-in-Err
returns-in-Err g c =
    let S = g.S.Source in
    let O = g.O.Sink in
    let E = g.E.Sink in
    let words = map string_bytes c.args.words.now in
    let ended = c.stopped-in-Err in
    record {
      headline = ended_without S.left S.faults O.taken O.faults E.taken E.faults words c.args.src.now c.run.new.src c.args.out.now c.run.new.out c.args.err.now ended.new.err ended.result
          c.in-Err.stop ended.ensures.status (c.in-Err.ensures.owed words c.in-Some.ensures) (λ none. absurd (none c.in-Some.settings c.in-Some.ensures))
          (λ e. absurd (c.in-Err.ensures.no_usage (ap Err (is_usage c.in-Err.stop e)))) c.in-Err.ensures.untouched ended.ensures.no_book ended.ensures.told;
    }
